-- The whole number nearest to a fraction, an exact half to the even one: how it is computed, and the property that it alone has.
use Rattle.std.specs.Prelude.{ℕ, ◌+◌, ◌-◌, ◌*◌, ◌/◌, ◌%◌, ◌≤◌, ◌≡◌, cond, ltb, eqb}

-- the even one of a whole number and the next
unfoldable pub even_of : ℕ → ℕ
even_of whole = cond (eqb (whole % 2) 0) whole (whole + 1)

-- the quotient or the next number, by twice the remainder against the divisor; only where these are equal, by which of the two is even
unfoldable pub rounded : ℕ → ℕ → ℕ → ℕ
rounded quotient remainder divisor =
    cond (ltb (2 * remainder) divisor) quotient (cond (ltb divisor (2 * remainder)) (quotient + 1) (even_of quotient))

-- a fraction rounded to the nearest whole number, an exact half to the even one
unfoldable pub nearest : ℕ → ℕ → ℕ
nearest dividend divisor = rounded (dividend / divisor) (dividend % divisor) divisor

-- the distance of two numbers: one of the two differences is 0
unfoldable pub apart : ℕ → ℕ → ℕ
apart x y = (x - y) + (y - x)

-- what makes a whole number the nearest to a fraction: twice the distance from the dividend to that many times the divisor is at most the
-- divisor, and where it equals the divisor, the number is even
pub record Nearest (dividend divisor whole : ℕ) : Type 0 where
  pub near : 2 * apart dividend (whole * divisor) ≤ divisor
  pub even : 2 * apart dividend (whole * divisor) ≡ divisor → whole % 2 ≡ 0
