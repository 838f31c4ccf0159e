-- `writing::write_digits` meets its contract: no digit is written yet when the loop begins.
use Rattle.std.proofs.Common.{arith}
use Rattle.list_line.proofs.Decimal.{left_all}
use Rattle.list_line.proofs.writing.write_digits.Goals as goal

pub loop-i-init : goal.loop-i-init
loop-i-init c = left_all c.args.n c.args.digits.now (omega arith) (omega arith)
