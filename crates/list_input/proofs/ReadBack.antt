-- The digits of a printed number read back as the number.
use Prim.Native.Nat.{ℕ, zero, suc, ◌%◌, ◌^◌, ◌≤◌, ◌<◌}
use native.Mathlib.Omega.{arith}
use mathlib.Core.Path.{◌≡◌, refl, ap, ◌∙◌}
use mathlib.Core.Bool.{true, not}
use mathlib.Core.List.{List, [], ◌∷◌}
use lib.Dec.{eqb}
use borrow.Author.Tests.{le-leb, ne_eqb}
use Rattle.base.specs.Lists.{every}
use Rattle.base.proofs.Lists.{and_both}
use Rattle.base.specs.Bytes.{digit}
use Rattle.list_line.specs.Line.{digits_before, decimal}
use Rattle.list_line.proofs.Decimal.{digits_by}
use Rattle.list_input.specs.Input.{is_digit, is_decimal, decimal_value}

value_digits : (places n : ℕ) (rest : List ℕ) → n < 10 ^ suc places → decimal_value 0 (digits_before (suc places) n rest) ≡ decimal_value n rest
value_digits =
    digits_by
    (λ n rest l. decimal_value 0 l ≡ decimal_value n rest)
    (λ n rest h. ap (λ (m : ℕ). decimal_value m rest) (omega arith))
    (λ n rest l h e. e ∙ ap (λ (m : ℕ). decimal_value m rest) (omega arith))

-- a number of at most ten digits is the value of its digits
pub value_decimal : (n : ℕ) → n < 10 ^ 10 → decimal_value 0 (decimal n) ≡ n
unfolding decimal
value_decimal n h = value_digits 9 n [] h

digit_is_digit : (n : ℕ) → n < 10 → is_digit (digit n) ≡ true
digit_is_digit n h = and_both (le-leb (digit 0) (digit n) (omega arith)) (le-leb (digit n) (digit 9) (omega arith))

leading : (n : ℕ) (rest : List ℕ) → n < 10 → 1 ≤ n → every is_digit rest ≡ true → is_decimal (digit n ∷ rest) ≡ true
leading n [] h p e = digit_is_digit n h
leading n (b ∷ rest) h p e =
    let nonzero : not (eqb (digit n) (digit 0)) ≡ true = ap not (ne_eqb (digit n) (digit 0) (λ q. omega arith)) in
    and_both nonzero (and_both (digit_is_digit n h) e)

is_decimal_digits : (places n : ℕ) (rest : List ℕ) → n < 10 ^ suc places → 1 ≤ n → every is_digit rest ≡ true
    → is_decimal (digits_before (suc places) n rest) ≡ true
is_decimal_digits =
    digits_by
    (λ n rest l. 1 ≤ n → every is_digit rest ≡ true → is_decimal l ≡ true)
    leading
    (λ n rest l h r p e. r (omega arith) (and_both (digit_is_digit (n % 10) (omega arith)) e))

-- it has digits alone, at least one, and no leading zero
is_decimal_lem : (n : ℕ) → n < 10 ^ 10 → is_decimal (decimal n) ≡ true
unfolding decimal
is_decimal_lem zero h = refl
is_decimal_lem (suc n) h = is_decimal_digits 9 (suc n) [] h (omega arith) refl
