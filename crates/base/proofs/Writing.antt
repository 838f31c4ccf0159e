-- Words written into a buffer from its start, one after the other.
use Prim.Native.Nat.{ℕ, suc, ◌+◌, ◌≤◌, ◌<◌}
use native.Mathlib.Omega.{arith}
use native.Mathlib.Numerals.{add-one}
use mathlib.Core.Path.{◌≡◌, sym, ap, ap₂, ◌∙◌}
use mathlib.Core.List.{List, [], ◌∷◌, ◌++◌, append-nil, append_assoc}
use lib.ListN.{length, get_or, set, take, drop, drop_of_length-le}
use lib.Seq.{drop-cons, take-suc, set_at, take_all, length-take-le}

-- one more word behind those that are written already
write_next : (new old : List ℕ) (i v : ℕ) → length new ≡ i → i < length old → set (new ++ drop i old) i v ≡ (new ++ v ∷ []) ++ drop (suc i) old
write_next new old i v e h =
    ap (λ (l : List ℕ). set (new ++ l) i v) (drop-cons old i 0 h)
    ∙ set_at new (get_or old i 0) (drop (suc i) old) v i e
    ∙ sym (append_assoc new (v ∷ []) (drop (suc i) old))

-- the first i words of `new` are written over those of `old`
abbrev pub Written : List ℕ → List ℕ → ℕ → List ℕ → Type 0
Written new old i now = now ≡ take i new ++ drop i old

pub written_more : (new old : List ℕ) (i : ℕ) (now : List ℕ) (v : ℕ) → Written new old i now → i < length new → length new ≤ length old
    → v ≡ get_or new i 0
    → Written new old (i + 1) (set now i v)
written_more new old i now v w h l e =
    rw (add-one i, w, e)
    (write_next (take i new) old i (get_or new i 0) (length-take-le i new (omega arith)) (omega arith)
    ∙ ap (λ (k : List ℕ). k ++ drop (suc i) old) (sym (take-suc new i 0 h)))

pub written_all : (new old : List ℕ) (i : ℕ) (now : List ℕ) → Written new old i now → length new ≤ i → length old ≤ i → now ≡ new
written_all new old i now w h l = w ∙ ap₂ (λ (a b : List ℕ). a ++ b) (take_all i new h) (drop_of_length-le old l) ∙ append-nil new
