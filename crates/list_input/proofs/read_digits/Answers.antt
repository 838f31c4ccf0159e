-- `read_digits` meets its contract: each byte is tested, and the number is made of the digits before it and of its own.
use Rattle.std.proofs.Common.{arith, sym, ◌∙◌, ◌≡◌, ◌+◌, ◌-◌, ◌*◌, ◌<◌, ◌^◌}
use lib.ListN.{get_or, drop}
use Rattle.list_input.specs.Answers.{digits_of}
use Rattle.list_input.proofs.Numbers.{bad_digit, next_digit, no_digit, one_digit_over}
use Rattle.list_input.proofs.read_digits.Goals as goal

pub returns-then-not-is_ascii_digit : goal.returns-then-not-is_ascii_digit
returns-then-not-is_ascii_digit c =
    sym
    (bad_digit c.loop-b.value c.args.bytes.now c.loop-b.b-index c.loop-b-test.true (sym c.is_ascii_digit.ensures.value ∙ c.if-not-is_ascii_digit.true))
    ∙ c.loop-b.invariant.1

pub returns-in_err-checked_mul : goal.returns-in_err-checked_mul
returns-in_err-checked_mul c =
    c.from_residual.ensures
    ∙ sym
    (one_digit_over c.loop-b.value c.args.bytes.now c.loop-b.b-index c.loop-b-test.true
    (sym c.is_ascii_digit.ensures.value ∙ c.if-not-is_ascii_digit.false)
    (omega (arith, c.in_err-checked_mul.ensures)))
    ∙ c.loop-b.invariant.1

pub returns-in_err-value : goal.returns-in_err-value
returns-in_err-value c =
    c.from_residual-in_err-value.ensures
    ∙ sym
    (one_digit_over c.loop-b.value c.args.bytes.now c.loop-b.b-index c.loop-b-test.true
    (sym c.is_ascii_digit.ensures.value ∙ c.if-not-is_ascii_digit.false)
    (omega (arith, c.in_ok-checked_mul.ensures, c.in_err-value.ensures)))
    ∙ c.loop-b.invariant.1

pub loop-b-preserved : goal.loop-b-preserved
loop-b-preserved c =
    let small : c.in_ok-value.value < 2 ^ 32 = omega (arith, c.in_ok-value.ensures) in
    let n : 10 * c.loop-b.value + (get_or c.args.bytes.now c.loop-b.b-index 0 - 48) ≡ c.in_ok-value.value =
    omega (arith, c.in_ok-checked_mul.ensures, c.in_ok-value.ensures) in (
      small,
      sym
          (next_digit c.loop-b.value c.args.bytes.now c.loop-b.b-index c.loop-b-test.true (sym c.is_ascii_digit.ensures.value ∙ c.if-not-is_ascii_digit.false)
          ∙ (λ i. digits_of (n i) (drop (c.loop-b.b-index + 1) c.args.bytes.now)))
          ∙ c.loop-b.invariant.1,
    )

pub returns : goal.returns
returns c = sym (no_digit c.loop-b.value c.args.bytes.now c.loop-b.b-index (omega arith) (omega arith)) ∙ c.loop-b.invariant.1
