-- Examples of the value by arithmetic.
use Prim.Native.Nat.{ℕ, ◌/◌, ◌%◌}
use mathlib.Core.Path.{◌≡◌, refl}
use mathlib.Core.List.{[], ◌∷◌, map}
use Rattle.kmers.specs.Letters.{value, foreign}
use Rattle.letters.specs.Computed.{eight, flipped, flipped_high, computed}

pub record LetterExamples : Type 0 where
  -- s of ACGT and of acgt
  pub halves : map (λ (b : ℕ). b / 2 % 4) eight ≡ 0 ∷ 1 ∷ 3 ∷ 2 ∷ 0 ∷ 1 ∷ 3 ∷ 2 ∷ []
  pub lowest_bit : map flipped (0 ∷ 1 ∷ 2 ∷ 3 ∷ []) ≡ 1 ∷ 0 ∷ 3 ∷ 2 ∷ []
  pub when_high : map flipped_high (0 ∷ 1 ∷ 2 ∷ 3 ∷ []) ≡ 0 ∷ 1 ∷ 3 ∷ 2 ∷ []
  pub values : map computed eight ≡ 0 ∷ 1 ∷ 2 ∷ 3 ∷ 0 ∷ 1 ∷ 2 ∷ 3 ∷ []
  -- N: arithmetic has a value for it too, and 01 has none
  pub no_letter : computed 78 ≡ 2
  pub outside : value 78 ≡ foreign

pub letter_examples : LetterExamples
unfolding computed value
letter_examples = record { halves = refl; lowest_bit = refl; when_high = refl; values = refl; no_letter = refl; outside = refl }
