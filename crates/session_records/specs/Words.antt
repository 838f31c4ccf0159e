-- Score words: numbers, or fractions, with the test of their order.
use Rattle.std.specs.Prelude.{ℕ, ◌+◌, ◌-◌, ◌*◌, ◌/◌, ◌%◌, Bool, cond, leb}

-- 2^21: divisors in a word are below this
abbrev pub divisor_span : ℕ
divisor_span = 2097152

-- the word of a fraction: (m − 1)·2^21 + (2^21 − 1 − divisor). So word 0 stands for the least of all, 1 / (2^21 − 1)
unfoldable pub fraction_word : ℕ → ℕ → ℕ
fraction_word m divisor = (m - 1) * divisor_span + (divisor_span - 1 - divisor)

-- the fraction of a word: its m, and its divisor
unfoldable pub numerator : ℕ → ℕ
numerator word = word / divisor_span + 1

unfoldable pub denominator : ℕ → ℕ
denominator word = divisor_span - 1 - word % divisor_span

-- the order of score words, as a test: numbers as they are, fractions by cross products
unfoldable pub at_most : Bool → ℕ → ℕ → Bool
at_most fractions a b = cond fractions (leb (numerator a * denominator b) (numerator b * denominator a)) (leb a b)
