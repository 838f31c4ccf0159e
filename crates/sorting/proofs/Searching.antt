-- Halving what is left of words in order finds where the words from x on begin.
use Prim.Native.Nat.{ℕ, zero, suc, ◌+◌, ◌-◌, ◌*◌, ◌≤◌, ◌<◌}
use native.Mathlib.Nat.{le_refl}
use native.Mathlib.Omega.{arith}
use mathlib.Core.Path.{◌≡◌, refl}
use mathlib.Core.Bool.{Bool, true, false}
use mathlib.Core.List.{List}
use lib.Dec.{ltb}
use lib.ListN.{length, get_or}
use borrow.Author.Tests.{ltb-true, ltb-false}
use Rattle.base.specs.Lists.{bit}
use Rattle.sorting.specs.Sorting.{Sorted, LowerBound}
use Rattle.sorting.specs.Searching.{half_of, halved, searched}

module _ (words : List ℕ) (x : ℕ) where
  -- where the search stands after a turn
  abbrev stepped : ℕ → ℕ → ℕ
  stepped at left = at + half_of left * bit (ltb (get_or words (at + half_of left - 1) 0) x)

  -- fuel for each word left is enough
  halved_enough : (a b at left : ℕ) → left ≤ a → left ≤ b → halved a words x at left ≡ halved b words x at left
  unfolding halved
  halved_enough zero zero at left h l = refl
  halved_enough zero (suc b) at zero h l = refl
  halved_enough zero (suc b) at (suc rest) h l = absurd (omega arith)
  halved_enough (suc a) zero at zero h l = refl
  halved_enough (suc a) zero at (suc rest) h l = absurd (omega arith)
  halved_enough (suc a) (suc b) at zero h l = refl
  halved_enough (suc a) (suc b) at (suc rest) h l =
      halved_enough a b (stepped at (suc rest)) (suc rest - half_of (suc rest)) (omega arith) (omega arith)

  -- a turn
  pub halved_more : (at left : ℕ) → 0 < left → halved (left - half_of left) words x (stepped at left) (left - half_of left) ≡ halved left words x at left
  unfolding halved
  halved_more at zero h = absurd (omega arith)
  halved_more at (suc rest) h =
      halved_enough (suc rest - half_of (suc rest)) rest (stepped at (suc rest)) (suc rest - half_of (suc rest)) (le_refl (suc rest - half_of (suc rest)))
      (omega arith)

  -- nothing is left
  pub halved_none : (at left : ℕ) → left ≤ 0 → halved left words x at left ≡ at
  unfolding halved
  halved_none at zero h = refl
  halved_none at (suc rest) h = absurd (omega arith)

  -- the words before `at` are below x, and those behind the next `left` ones are not
  record Bracket (at left : ℕ) : Type 0 where
    pub within : at + left ≤ length words
    pub below : (k : ℕ) → k < at → get_or words k 0 < x
    pub above : (k : ℕ) → at + left ≤ k → k < length words → x ≤ get_or words k 0

  -- the word in the middle settles all on one side of it
  bracket_more : Sorted words → (at left : ℕ) → Bracket at left → 0 < left → Bracket (stepped at left) (left - half_of left)
  bracket_more s at left b p = go (ltb (get_or words (at + half_of left - 1) 0) x) refl
    where
      go : (t : Bool) → ltb (get_or words (at + half_of left - 1) 0) x ≡ t → Bracket (at + half_of left * bit t) (left - half_of left)
      go true f =
          record {
            within = let w : at + left ≤ length words = b.within in omega arith;
            below =
                λ k h.
                let w : at + left ≤ length words = b.within in
                let m : get_or words (at + half_of left - 1) 0 < x = ltb-true (get_or words (at + half_of left - 1) 0) x f in
                let r : get_or words k 0 ≤ get_or words (at + half_of left - 1) 0 = s k (at + half_of left - 1) (omega arith) (omega arith) in
                omega arith;
            above = λ k h l. b.above k (omega arith) l;
          }
      go false f =
          record {
            within = let w : at + left ≤ length words = b.within in omega arith;
            below = λ k h. b.below k (omega arith);
            above =
                λ k h l.
                let m : x ≤ get_or words (at + half_of left - 1) 0 = ltb-false (get_or words (at + half_of left - 1) 0) x f in
                let r : get_or words (at + half_of left - 1) 0 ≤ get_or words k 0 = s (at + half_of left - 1) k (omega arith) l in
                omega arith;
          }

  bracket_all : (at left : ℕ) → Bracket at left → left ≤ 0 → LowerBound words x at
  bracket_all at left b h =
      record { within = let w : at + left ≤ length words = b.within in omega arith; below = b.below; above = λ k m n. b.above k (omega arith) n }

  halved_bound : Sorted words → (fuel at left : ℕ) → left ≤ fuel → Bracket at left → LowerBound words x (halved fuel words x at left)
  unfolding halved
  halved_bound s zero at left h b = bracket_all at left b h
  halved_bound s (suc fuel) at zero h b = bracket_all at 0 b (le_refl 0)
  halved_bound s (suc fuel) at (suc rest) h b =
      halved_bound s fuel (stepped at (suc rest)) (suc rest - half_of (suc rest)) (omega arith) (bracket_more s at (suc rest) b (omega arith))

-- of words in order it is the number of those below x
pub searched_bound : (words : List ℕ) (x : ℕ) → Sorted words → LowerBound words x (searched words x)
unfolding searched
searched_bound words x s =
    halved_bound words x s (length words) 0 (length words) (le_refl (length words))
    (record { within = omega arith; below = λ k h. absurd (omega arith); above = λ k h l. absurd (omega arith) })

-- and so is what the code answers
pub answer_bound : (words : List ℕ) (x n : ℕ) → n ≡ searched words x → Sorted words → LowerBound words x n
answer_bound words x n e s = rw e (searched_bound words x s)
