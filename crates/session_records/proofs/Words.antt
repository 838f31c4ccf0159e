-- Score words: both orders are preorders, the word of a fraction is read back, and fractions do not fall with m and do not rise with len.
use Prim.Native.Nat.{ℕ, ◌+◌, ◌-◌, ◌*◌, ◌≤◌, ◌<◌, zero-le}
use native.Mathlib.Nat.{le_refl, le_trans, le_of_lt, mul-le-mul}
use native.Mathlib.Omega.{arith}
use mathlib.Core.Bool.{Bool, true, false}
use mathlib.Core.Path.{◌≡◌, ap, ◌∙◌}
use lib.Dec.{leb}
use lib.Arith.{digits_div, digits_mod}
use borrow.Author.Tests.{le-leb, leb-true, leb-false}
use Rattle.base.proofs.Fractions.{cross_transitive}
use Rattle.session_records.specs.Words.{divisor_span, fraction_word, numerator, denominator, at_most}
use Rattle.session_records.specs.Order.{Preorder, Monotone}

-- ---- the order

-- no word stands for 0/0
some_numerator : (word : ℕ) → 1 ≤ numerator word
unfolding numerator
some_numerator word = omega arith

small_denominator : (word : ℕ) → denominator word ≤ divisor_span - 1
unfolding denominator
small_denominator word = omega arith

number_order : Preorder leb
number_order = record {
  total = λ a b e. le-leb b a (le_of_lt (leb-false a b e));
  trans = λ a b c e f. le-leb a c (le_trans (leb-true a b e) (leb-true b c f));
  lowest = λ a. le-leb 0 a zero-le;
}

-- one fraction is at most another
fraction_leb : (a b : ℕ) → numerator a * denominator b ≤ numerator b * denominator a → at_most true a b ≡ true
unfolding at_most
fraction_leb a b h = le-leb (numerator a * denominator b) (numerator b * denominator a) h

leb_fraction : (a b : ℕ) → at_most true a b ≡ true → numerator a * denominator b ≤ numerator b * denominator a
unfolding at_most
leb_fraction a b e = leb-true (numerator a * denominator b) (numerator b * denominator a) e

-- word 0 stands for 1 / (2^21 − 1)
least : (a : ℕ) → numerator 0 * denominator a ≤ numerator a * denominator 0
unfolding numerator denominator
least a = mul-le-mul (some_numerator a) (small_denominator a)

-- where a divisor is 0, as of a word that no score has, the word stands above all others: the order holds of all words
fraction_order : Preorder (at_most true)
unfolding at_most
fraction_order = record {
  total = λ a b e. fraction_leb b a (le_of_lt (leb-false (numerator a * denominator b) (numerator b * denominator a) e));
  trans = λ a b c e f. fraction_leb a c
      (cross_transitive (numerator a) (denominator a) (numerator b) (denominator b) (numerator c) (denominator c)
      (omega (arith, some_numerator b)) (leb_fraction a b e) (leb_fraction b c f));
  lowest = λ a. fraction_leb 0 a (least a);
}

pub word_order : (fractions : Bool) → Preorder (at_most fractions)
unfolding at_most
word_order false = number_order
word_order true = fraction_order

-- ---- fractions as words

-- what is read from any such word: no numerator is 0, and a divisor of more than 21 bits is cut off
read_numerator : (m divisor : ℕ) → numerator (fraction_word m divisor) ≡ m - 1 + 1
unfolding numerator fraction_word
read_numerator m divisor =
    let rest : divisor_span - 1 - divisor < divisor_span = omega arith in
    ap (λ (n : ℕ). n + 1) (digits_div (m - 1) rest)

read_denominator : (m divisor : ℕ) → denominator (fraction_word m divisor) ≡ divisor_span - 1 - (divisor_span - 1 - divisor)
unfolding denominator fraction_word
read_denominator m divisor =
    let rest : divisor_span - 1 - divisor < divisor_span = omega arith in
    ap (λ (n : ℕ). divisor_span - 1 - n) (digits_mod (m - 1) rest)

pub numerator_word : (m divisor : ℕ) → 1 ≤ m → divisor < divisor_span → numerator (fraction_word m divisor) ≡ m
numerator_word m divisor some small = read_numerator m divisor ∙ omega arith

pub denominator_word : (m divisor : ℕ) → 1 ≤ m → divisor < divisor_span → denominator (fraction_word m divisor) ≡ divisor
denominator_word m divisor some small = read_denominator m divisor ∙ omega arith

-- more of m and less of the divisor: no less
fractions_rise : (m divisor m' divisor' : ℕ) → m ≤ m' → divisor' ≤ divisor
    → at_most true (fraction_word m divisor) (fraction_word m' divisor') ≡ true
fractions_rise m divisor m' divisor' h k =
    fraction_leb (fraction_word m divisor) (fraction_word m' divisor')
    (rw (read_numerator m divisor, read_numerator m' divisor', read_denominator m divisor, read_denominator m' divisor')
    (mul-le-mul more less))
  where
    more : m - 1 + 1 ≤ m' - 1 + 1
    more = omega arith

    less : divisor_span - 1 - (divisor_span - 1 - divisor') ≤ divisor_span - 1 - (divisor_span - 1 - divisor)
    less = omega arith

-- for all m and len, whether or not the word is that of a score
pub fraction_monotone : (size : ℕ) → Monotone (at_most true) (λ m len. fraction_word m (len + size - m))
fraction_monotone size = record {
  with_m = λ m m' len h. fractions_rise m (len + size - m) m' (len + size - m') h (omega arith);
  with_len = λ m len len' h. fractions_rise m (len' + size - m) m (len + size - m) (le_refl m) (omega arith);
}
