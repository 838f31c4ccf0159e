-- Words of fractions that each rule out a mistaken order, computed from the definitions.
use mathlib.Core.Path.{◌≡◌, refl}
use mathlib.Core.Bool.{true, false}
use lib.Dec.{eqb}
use Rattle.session_records.specs.Words.{fraction_word, numerator, denominator, at_most}

-- `equal`: 1/2 and 2/4 are each at most the other, though their words differ. `cross`: 1/3 is below 2/5, and not the other way. `least`: word 0
-- is 1 / (2^21 − 1), below the fraction with the next lower divisor and below the one with the next m. `numbers`: words as they are
pub record WordExamples : Type 0 where
  pub equal : (at_most true (fraction_word 1 2) (fraction_word 2 4) ≡ true) × (at_most true (fraction_word 2 4) (fraction_word 1 2) ≡ true)
      × (eqb (fraction_word 1 2) (fraction_word 2 4) ≡ false)
  pub cross : (at_most true (fraction_word 1 3) (fraction_word 2 5) ≡ true) × (at_most true (fraction_word 2 5) (fraction_word 1 3) ≡ false)
  pub least : (fraction_word 1 2097151 ≡ 0) × (at_most true (fraction_word 1 2097150) 0 ≡ false) × (at_most true (fraction_word 2 2097151) 0 ≡ false)
  pub numbers : (at_most false (fraction_word 2 4) (fraction_word 1 2) ≡ false) × (at_most false (fraction_word 1 2) (fraction_word 2 4) ≡ true)

pub word_examples : WordExamples
unfolding fraction_word numerator denominator at_most
word_examples = record { equal = (refl, refl, refl); cross = (refl, refl); least = (refl, refl, refl); numbers = (refl, refl) }
