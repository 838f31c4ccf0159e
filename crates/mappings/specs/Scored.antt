-- What is asked of a score for the argument about wider intervals: an order that is total and transitive, and what adding an end does.
use Rattle.std.specs.Prelude.{ℕ, suc, ◌≤◌, Bool, true, false, ◌≡◌}

-- a score of m and len, with the test of its order. Intervals have at least one entry
pub record Scored (S : Type 0) (at_most : S → S → Bool) (score : ℕ → ℕ → S) : Type 0 where
  pub total : (y z : S) → at_most y z ≡ false → at_most z y ≡ true
  pub transitive : (x z : S) (m len : ℕ) → 1 ≤ len → at_most x (score m len) ≡ true → at_most (score m len) z ≡ true → at_most x z ≡ true
  -- an end that adds nothing to m: the score falls, or stays
  pub longer : (m len : ℕ) → at_most (score m (suc len)) (score m len) ≡ true
