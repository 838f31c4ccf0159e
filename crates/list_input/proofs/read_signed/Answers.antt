-- `read_signed` meets its contract: what is behind a minus is read up to 2^31 and not 0, what has none up to 2^31 − 1.
use Rattle.std.proofs.Common.{arith, sym, ap, ◌∙◌, ◌≡◌, ℕ, ◌-◌, ◌≤◌, List, length, Option, Some}
use lib.ListN.{take, drop}
use Rattle.std.proofs.lemmas.Int.{ints}
use Rattle.list_line.proofs.Buffers.{part_to_end}
use Rattle.list_input.specs.Answers.{number_of}
use Rattle.list_input.proofs.Numbers.{as_negative, as_positive, threshold_none, threshold_minus, threshold_plain, plain_value, minus_value}
use Rattle.list_input.proofs.read_signed.Goals as goal

pub returns-in_default : goal.returns-in_default
returns-in_default c = sym (threshold_none c.args.bytes.now (omega arith))

pub returns-in_err-read_number : goal.returns-in_err-read_number
returns-in_err-read_number c =
    c.from_residual.ensures
    ∙ sym
    (threshold_plain c.args.bytes.now (omega arith) c.if-sign-ne-MINUS.true ∙ ap as_positive (sym c.read_number.ensures ∙ c.in_err-read_number.was))

pub returns-then-sign-ne-MINUS : goal.returns-then-sign-ne-MINUS
returns-then-sign-ne-MINUS c =
    c.ok.ensures.value
    ∙ plain_value c.try_from.result c.in_ok-read_number.field-0 c.try_from.ensures
    ∙ sym (threshold_plain c.args.bytes.now (omega arith) c.if-sign-ne-MINUS.true ∙ ap as_positive (sym c.read_number.ensures ∙ c.in_ok-read_number.was))

-- what was read behind a minus
module _ (l : List ℕ) (some : 1 ≤ length l) where
  behind : {read other : Option ℕ} → read ≡ number_of (take (length l - 1) (drop 1 l)) → read ≡ other → number_of (drop 1 l) ≡ other
  behind is e = sym (ap number_of (part_to_end l (length l) 1 (omega arith))) ∙ sym is ∙ e

pub returns-in_err-magnitude : goal.returns-in_err-magnitude
returns-in_err-magnitude c =
    c.from_residual-in_err-magnitude.ensures
    ∙ sym
    (threshold_minus c.args.bytes.now (omega arith) c.if-sign-ne-MINUS.false
    ∙ ap as_negative (behind c.args.bytes.now (omega arith) c.read_number-2.ensures c.in_err-magnitude.was))

pub returns-then-magnitude-eq0 : goal.returns-then-magnitude-eq0
returns-then-magnitude-eq0 c =
    sym
    (threshold_minus c.args.bytes.now (omega arith) c.if-sign-ne-MINUS.false
    ∙ ap as_negative (behind c.args.bytes.now (omega arith) c.read_number-2.ensures c.in_ok-magnitude.was)
    ∙ ap (λ (v : ℕ). as_negative (Some v)) c.if-magnitude-eq0.true)

pub returns : goal.returns
returns c =
    c.ok-2.ensures.value
    ∙ minus_value c.try_from-2.result c.in_ok-magnitude.magnitude _ (omega (arith, ints)) c.if-magnitude-eq0.false c.try_from-2.ensures
    ∙ sym
    (threshold_minus c.args.bytes.now (omega arith) c.if-sign-ne-MINUS.false
    ∙ ap as_negative (behind c.args.bytes.now (omega arith) c.read_number-2.ensures c.in_ok-magnitude.was))
