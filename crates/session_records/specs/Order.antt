-- Scores as words, ordered by a test that computes: what a session asks of an order and of a score.
use Rattle.std.specs.Prelude.{ℕ, ◌≤◌, Bool, true, false, ◌≡◌}

-- a total preorder: unequal words may stand for equal scores. Word 0, which stands for no score, is at most each word
pub record Preorder (at_most : ℕ → ℕ → Bool) : Type 0 where
  pub total : (a b : ℕ) → at_most a b ≡ false → at_most b a ≡ true
  pub trans : (a b c : ℕ) → at_most a b ≡ true → at_most b c ≡ true → at_most a c ≡ true
  pub lowest : (a : ℕ) → at_most 0 a ≡ true

-- a score, by m and len, that does not fall with m and does not rise with len
pub record Monotone (at_most : ℕ → ℕ → Bool) (score : ℕ → ℕ → ℕ) : Type 0 where
  pub with_m : (m m' len : ℕ) → m ≤ m' → at_most (score m len) (score m' len) ≡ true
  pub with_len : (m len len' : ℕ) → len ≤ len' → at_most (score m len') (score m len) ≡ true
