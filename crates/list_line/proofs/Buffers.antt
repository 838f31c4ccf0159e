-- Laws of what a writer leaves: where the bytes fit, where they do not, and two writers one after the other.
use Prim.Native.Nat.{ℕ, suc, ◌+◌, ◌-◌, ◌≤◌, ◌<◌}
use native.Mathlib.Nat.{add-zero, zero-add, sub-zero}
use native.Mathlib.Omega.{arith}
use mathlib.Core.Path.{◌≡◌, refl, sym, ap, ◌∙◌, subst}
use mathlib.Core.List.{List, [], ◌∷◌, ◌++◌, append-nil, append_assoc}
use lib.Dec.{leb-suc-zero}
use lib.ListN.{length, take, drop, length-append, length-drop, take-append-drop}
use lib.Seq.{take-length, length-take-le, take_all, take_at, append_snoc, drop-append-add, drop-drop}
use borrow.Author.Tests.{le-leb, lt-leb}
use borrow.Rule.Slice.PartMut.{put_mid}
use Rattle.std.proofs.lemmas.Slice.{put_mid-paste}
use Rattle.list_line.specs.Line.{fitting, LineWritten}
use Rattle.list_line.specs.Writing.{over_from, Written}

pub fitting_all : (room : ℕ) (bytes : List ℕ) → length bytes ≤ room → fitting room bytes ≡ bytes
unfolding fitting
fitting_all room bytes h = rw (le-leb (length bytes) room h)

fitting_none : (room : ℕ) (bytes : List ℕ) → room < length bytes → fitting room bytes ≡ []
unfolding fitting
fitting_none room bytes h = rw (lt-leb (length bytes) room h)

-- no byte fits behind a buffer's end
fitting_behind : (bytes : List ℕ) → fitting 0 bytes ≡ []
unfolding fitting
fitting_behind [] = refl
fitting_behind (b ∷ bytes) = rw (leb-suc-zero (length bytes))

over_from_none : (at : ℕ) (old : List ℕ) → over_from at [] old ≡ old
unfolding over_from
over_from_none at old = simp (add-zero, append-nil) (take-append-drop at old)

-- nothing is written
kept : (bytes : List ℕ) (at : ℕ) (old : List ℕ) → fitting (length old - at) bytes ≡ [] → Written bytes at old old at
kept bytes at old e = record { index = simp (e, add-zero); buffer = rw e (sym (over_from_none at old)) }

pub kept_behind : (bytes : List ℕ) (at : ℕ) (old : List ℕ) → length old ≤ at → Written bytes at old old at
kept_behind bytes at old h =
    let z : length old - at ≡ 0 = omega arith in
    kept bytes at old (rw z (fitting_behind bytes))

pub kept_short : (bytes : List ℕ) (at : ℕ) (old : List ℕ) → length old - at < length bytes → Written bytes at old old at
kept_short bytes at old h = kept bytes at old (fitting_none (length old - at) bytes h)

-- all is written
pub wrote : (bytes : List ℕ) (at : ℕ) (old : List ℕ) → at + length bytes ≤ length old
    → Written bytes at old (over_from at bytes old) (at + length bytes)
wrote bytes at old h =
    let e : fitting (length old - at) bytes ≡ bytes = fitting_all (length old - at) bytes (omega arith) in
    record { index = rw e; buffer = rw e }

-- so it is where a part of the buffer takes them
pub placed : (bytes : List ℕ) (at : ℕ) (old : List ℕ) {new : List ℕ} {k : ℕ} → new ≡ bytes → k ≡ length bytes → at + length bytes ≤ length old
    → Written bytes at old (put_mid at k old new) (at + length bytes)
unfolding over_from
placed bytes at old {new} {k} e n h =
    let w : Written bytes at old (over_from at bytes old) (at + length bytes) = wrote bytes at old h in
    let whole : put_mid at k old new ≡ over_from at bytes old =
    put_mid-paste at k old new bytes (length bytes) e (sym n) refl
    ∙ ap (λ (l : List ℕ). take at old ++ l ++ drop (at + length bytes) old) (take-length bytes) in
    record { index = w.index; buffer = whole ∙ w.buffer }

-- what was written, and where, by a writer with room for its bytes
module _ {bytes : List ℕ} {at : ℕ} {old new : List ℕ} {next : ℕ} (w : Written bytes at old new next) (room : at + length bytes ≤ length old) where
  all : fitting (length old - at) bytes ≡ bytes
  all = fitting_all (length old - at) bytes (omega arith)

  pub written_index : next ≡ at + length bytes
  written_index = w.index ∙ ap (λ (l : List ℕ). at + length l) all

  pub written_buffer : new ≡ over_from at bytes old
  written_buffer = w.buffer ∙ ap (λ (l : List ℕ). over_from at l old) all

module _ (at : ℕ) (old : List ℕ) where
  length_head : (a : List ℕ) → at ≤ length old → length (take at old ++ a) ≡ at + length a
  length_head a h = length-append (take at old) a ∙ ap (λ (n : ℕ). n + length a) (length-take-le at old h)

  pub length_over_from : (a : List ℕ) → at + length a ≤ length old → length (over_from at a old) ≡ length old
  unfolding over_from
  length_over_from a h =
      length-append (take at old ++ a) (drop (at + length a) old)
      ∙ ap (λ (n : ℕ). n + length (drop (at + length a) old)) (length_head a (omega arith))
      ∙ ap (λ (n : ℕ). at + length a + n) (length-drop (at + length a) old)
      ∙ (omega arith)

  -- the second right behind the first
  over_from_over_from : (a b : List ℕ) → at ≤ length old → over_from (at + length a) b (over_from at a old) ≡ over_from at (a ++ b) old
  unfolding over_from
  over_from_over_from a b h =
      let head : List ℕ = take at old ++ a in
      let rest : List ℕ = drop (at + length a) old in
      let long : length head ≡ at + length a = length_head a h in
      let e : at + length a + length b ≡ at + length (a ++ b) = omega (arith, length-append a b) in
      ap (λ (l : List ℕ). l ++ b ++ drop (at + length a + length b) (head ++ rest)) (take_at head rest (at + length a) long)
      ∙ ap (λ (l : List ℕ). head ++ b ++ l)
      (ap (λ (n : ℕ). drop (n + length b) (head ++ rest)) (sym long)
      ∙ drop-append-add head rest (length b)
      ∙ drop-drop (length b) (at + length a) old
      ∙ ap (λ (n : ℕ). drop n old) e)
      ∙ ap (λ (l : List ℕ). l ++ drop (at + length (a ++ b)) old) (append_assoc (take at old) a b)

-- two writers one after the other, with room for both, are one
pub joined : {a b : List ℕ} {at : ℕ} {s t u : List ℕ} {n k : ℕ} → Written a at s t n → Written b n t u k → at + length (a ++ b) ≤ length s
    → Written (a ++ b) at s u k
joined {a} {b} {at} {s} {t} {u} {n} {k} first second room =
    let both : length (a ++ b) ≡ length a + length b = length-append a b in
    let e : n ≡ at + length a = written_index first (omega arith) in
    let d : t ≡ over_from at a s = written_buffer first (omega arith) in
    let l : length t ≡ length s = ap length d ∙ length_over_from at s a (omega arith) in
    let e₂ : k ≡ at + length (a ++ b) = written_index second (omega arith) ∙ (omega arith) in
    let d₂ : u ≡ over_from at (a ++ b) s =
    written_buffer second (omega arith)
    ∙ ap (λ (i : ℕ). over_from i b t) e
    ∙ ap (over_from (at + length a) b) d
    ∙ over_from_over_from at s a b (omega arith) in
    let w : Written (a ++ b) at s (over_from at (a ++ b) s) (at + length (a ++ b)) = wrote (a ++ b) at s room in
    record { index = e₂ ∙ w.index; buffer = d₂ ∙ w.buffer }

pub same_bytes : {a b : List ℕ} {at : ℕ} {s t : List ℕ} {n : ℕ} → a ≡ b → Written a at s t n → Written b at s t n
same_bytes {at} {s} {t} {n} e w = subst (λ (l : List ℕ). Written l at s t n) e w

-- one byte between two fields
pub joined_by : {a b : List ℕ} {between at : ℕ} {s t u v : List ℕ} {n k l : ℕ}
    → Written a at s t n → Written (between ∷ []) n t u k → Written b k u v l → at + (length a + suc (length b)) ≤ length s
    → Written (a ++ between ∷ b) at s v l
joined_by {a} {b} {between} first middle second room =
    let e : length (a ++ between ∷ []) ≡ length a + 1 = length-append a (between ∷ []) in
    let f : length ((a ++ between ∷ []) ++ b) ≡ length (a ++ between ∷ []) + length b = length-append (a ++ between ∷ []) b in
    same_bytes (append_snoc a between b) (joined (joined first middle (omega arith)) second (omega arith))

-- what was written from a buffer's start, with room for it: so many bytes of the buffer
module _ {bytes old new : List ℕ} {next : ℕ} (w : Written bytes 0 old new next) (room : length bytes ≤ length old) where
  pub start_index : next ≡ length bytes
  start_index = written_index w (omega arith) ∙ zero-add (length bytes)

  start_buffer : new ≡ bytes ++ drop (0 + length bytes) old
  unfolding over_from
  start_buffer = written_buffer w (omega arith)

  pub start_part : take next new ≡ bytes
  start_part = ap (take next) start_buffer ∙ take_at bytes (drop (0 + length bytes) old) next (sym start_index)

  pub start_length : length new ≡ length old
  start_length = ap length (written_buffer w (omega arith)) ∙ length_over_from 0 old bytes (omega arith)

-- from the buffer's start
pub from_start : {bytes old new : List ℕ} {next : ℕ} → Written bytes 0 old new next → LineWritten bytes old new next
unfolding over_from
from_start {bytes} {old} {new} {next} w =
    let e : fitting (length old - 0) bytes ≡ fitting (length old) bytes = ap (λ (n : ℕ). fitting n bytes) (sub-zero (length old)) in
    let z : (n : ℕ) → 0 + n ≡ n = zero-add in
    record {
      number = w.index ∙ z (length (fitting (length old - 0) bytes)) ∙ ap length e;
      buffer =
          w.buffer
          ∙ ap (λ (l : List ℕ). l ++ drop (0 + length l) old) e
          ∙ ap (λ (n : ℕ). fitting (length old) bytes ++ drop n old) (z (length (fitting (length old) bytes)));
    }

-- the part from an index to the end, as it is lent
pub part_to_end : (l : List ℕ) (end from : ℕ) → length l ≤ end → take (end - from) (drop from l) ≡ drop from l
part_to_end l end from h = let e : length (drop from l) ≡ length l - from = length-drop from l in take_all (end - from) (drop from l) (omega arith)
