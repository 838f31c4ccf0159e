-- What stands in the buffers once all entries are put: nothing new where there is no room, and all of them where there is enough.
use Prim.Native.Nat.{ℕ, suc, ◌+◌, ◌≤◌, ◌<◌, zero-le}
use native.Mathlib.Nat.{add-zero, zero-add}
use native.Mathlib.Omega.{arith}
use mathlib.Core.Path.{◌≡◌, refl, sym, ap, ap₂, ◌∙◌}
use mathlib.Core.List.{List, [], ◌∷◌, ◌++◌, append-nil, append_assoc}
use lib.ListN.{length, take, drop, set, length-set, length-map, take-append-drop}
use lib.Seq.{take-suc-set, drop-set-lt}
use borrow.Author.Tests.{lt-ltb, le-ltb}
use Rattle.base.specs.Replies.{over}
use Rattle.kmers.specs.Kmers.{Entry, codes, positions}
use Rattle.winnowing.specs.Winnowed.{wrote, placed, written}

-- the buffer with these words put one after the other, from n on
pour : ℕ → ℕ → List ℕ → List ℕ → List ℕ
pour room n [] buffer = buffer
pour room n (x ∷ xs) buffer = pour room (suc n) xs (placed room n x buffer)

written_pour : (room n : ℕ) (cs ps : List ℕ) (es : List Entry)
    → written room n cs ps es ≡ wrote (n + length es) (pour room n (codes es) cs) (pour room n (positions es) ps)
unfolding pour
written_pour room n cs ps [] = ap (λ (m : ℕ). wrote m cs ps) (sym (add-zero n))
written_pour room n cs ps (e ∷ es) =
    let count : suc n + length es ≡ n + suc (length es) = omega arith in
    written_pour room (suc n) (placed room n e.code cs) (placed room n e.position ps) es
    ∙ ap (λ (m : ℕ). wrote m (pour room n (codes (e ∷ es)) cs) (pour room n (positions (e ∷ es)) ps)) count

pour_nowhere : (n : ℕ) (xs buffer : List ℕ) → pour 0 n xs buffer ≡ buffer
unfolding pour placed
pour_nowhere n [] buffer = refl
pour_nowhere n (x ∷ xs) buffer = rw (le-ltb n 0 zero-le) (pour_nowhere (suc n) xs buffer)

pour_all : (room n : ℕ) (xs buffer : List ℕ) → n + length xs ≤ room → room ≤ length buffer
    → pour room n xs buffer ≡ take n buffer ++ xs ++ drop (n + length xs) buffer
unfolding pour placed
pour_all room n [] buffer h l =
    sym (take-append-drop n buffer)
    ∙ ap (λ (m : ℕ). take n buffer ++ drop m buffer) (sym (add-zero n))
    ∙ ap (λ (r : List ℕ). r ++ drop (n + 0) buffer) (sym (append-nil (take n buffer)))
pour_all room n (x ∷ xs) buffer h l =
    let room_here : n < length buffer = omega arith in
    let there : List ℕ = set buffer n x in
    let count : suc n + length xs ≡ n + suc (length xs) = omega arith in
    rw (lt-ltb n room (omega arith))
    (pour_all room (suc n) xs there (omega arith) (rw (length-set buffer n x) l)
    ∙ ap (λ (r : List ℕ). r ++ xs ++ drop (suc n + length xs) there) (take-suc-set buffer n x room_here)
    ∙ ap (λ (r : List ℕ). r ++ drop (suc n + length xs) there) (append_assoc (take n buffer) (x ∷ []) xs)
    ∙ ap (λ (r : List ℕ). take n buffer ++ x ∷ xs ++ r)
    (drop-set-lt (suc n + length xs) buffer n x (omega arith) ∙ ap (λ (m : ℕ). drop m buffer) count))

pour_start : (room : ℕ) (xs buffer : List ℕ) → length xs ≤ room → room ≤ length buffer → pour room 0 xs buffer ≡ over xs buffer
pour_start room xs buffer h l = pour_all room 0 xs buffer (omega arith) l ∙ ap (λ (m : ℕ). xs ++ drop m buffer) (zero-add (length xs))

-- no room: the entries are counted
pub written_nowhere : (n : ℕ) (cs ps : List ℕ) (es : List Entry) → written 0 n cs ps es ≡ wrote (n + length es) cs ps
written_nowhere n cs ps es = written_pour 0 n cs ps es ∙ ap₂ (wrote (n + length es)) (pour_nowhere n (codes es) cs) (pour_nowhere n (positions es) ps)

-- room for all: they stand at the start of both buffers
pub written_all : (room : ℕ) (cs ps : List ℕ) (es : List Entry) → length es ≤ room → room ≤ length cs → room ≤ length ps
    → written room 0 cs ps es ≡ wrote (length es) (over (codes es) cs) (over (positions es) ps)
written_all room cs ps es h hc hp =
    written_pour room 0 cs ps es
    ∙ ap (λ (m : ℕ). wrote m (pour room 0 (codes es) cs) (pour room 0 (positions es) ps)) (zero-add (length es))
    ∙ ap₂ (wrote (length es))
    (pour_start room (codes es) cs (rw (length-map es (λ (e : Entry). e.code)) h) hc)
    (pour_start room (positions es) ps (rw (length-map es (λ (e : Entry). e.position)) h) hp)
