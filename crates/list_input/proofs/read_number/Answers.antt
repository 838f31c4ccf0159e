-- `read_number` meets its contract: no byte, a zero with more behind it, else digits.
use Rattle.std.proofs.Common.{arith, ◌∙◌, sym}
use Rattle.std.proofs.lemmas.Bool.Decides.{nat_tests}
use Rattle.list_input.proofs.Numbers.{number_none, number_long, number_digits}
use Rattle.list_input.proofs.read_number.Goals as goal

pub returns-then-is_empty : goal.returns-then-is_empty
returns-then-is_empty c = grind (arith, nat_tests, number_none c.args.bytes.now, number_long c.args.bytes.now)

pub returns : goal.returns
returns c = c.read_digits.ensures ∙ sym (number_digits c.args.bytes.now (grind (arith, nat_tests)) (λ e. grind (arith, nat_tests)))
