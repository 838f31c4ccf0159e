-- The words of a list: where the search finds them, and their marks where no word may occur.
use Prim.Native.Nat.{ℕ, zero, suc, ◌+◌, ◌≤◌, ◌<◌}
use native.Mathlib.Nat.{le_refl, lt_of_not-le}
use native.Mathlib.Omega.{arith}
use mathlib.Core.Path.{◌≡◌, refl, sym, ap}
use mathlib.Core.Bool.{Bool, true, false}
use mathlib.Core.List.{List, [], ◌∷◌}
use lib.Dec.{eqb, leb}
use lib.ListN.{length, get_or}
use borrow.Author.Tests.{le-leb, lt-leb, leb-false}
use Rattle.base.specs.Lists.{bit}
use Rattle.base.specs.Counts.{occ}
use Rattle.base.proofs.Counts.{bit_same}
use Rattle.sorting.specs.Sorting.{Sorted}
use Rattle.sorting.specs.Searching.{searched}
use Rattle.sorting.proofs.Sorting.{lower_bound_run}
use Rattle.sorting.proofs.Searching.{searched_bound}
use Rattle.marking.specs.Marks.{mark_of}

pub occ_at : (l : List ℕ) (k : ℕ) → k < length l → 0 < occ (get_or l k 0) l
occ_at [] k h = absurd (omega arith)
occ_at (y ∷ ys) zero h = let one : bit (eqb y y) ≡ 1 = bit_same y in omega arith
occ_at (y ∷ ys) (suc k) h = let some : 0 < occ (get_or ys k 0) ys = occ_at ys k (omega arith) in omega arith

-- a word of a list in order is where the search ends
pub found : (l : List ℕ) → Sorted l → (x : ℕ) → 0 < occ x l → (searched l x < length l) × (get_or l (searched l x) 0 ≡ x)
found l s x h =
    let run = lower_bound_run l s x (searched l x) (searched_bound l x s) in
    let fits : searched l x + occ x l ≤ length l = run.within in
    (omega arith, run.inside (searched l x) (le_refl (searched l x)) (omega arith))

pub mark_present : (l : List ℕ) (x : ℕ) → 0 < occ x l → 0 ≡ mark_of l 0 x
mark_present l x h = sym (ap bit (lt-leb (occ x l) 0 h))

pub mark_absent : (l : List ℕ) (x : ℕ) → (0 < occ x l → ⊥) → 1 ≡ mark_of l 0 x
mark_absent l x h = let none : occ x l < 1 = lt_of_not-le h in sym (ap bit (le-leb (occ x l) 0 (omega arith)))

pub mark_too_often : (words : List ℕ) (limit x : ℕ) → 0 ≡ mark_of words limit x → limit < occ x words
mark_too_often words limit x e = go (leb (occ x words) limit) refl
  where
    go : (b : Bool) → leb (occ x words) limit ≡ b → limit < occ x words
    go true f = let one : mark_of words limit x ≡ 1 = ap bit f in absurd (omega arith)
    go false f = leb-false (occ x words) limit f
