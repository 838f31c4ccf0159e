-- The digits of what is left, in front of those written, are the digits of n.
use Rattle.list_line.proofs.Decimal.{Left}
use Rattle.list_line.proofs.writing.write_digits.Given as goal

abbrev pub invariant-loop-i : goal.invariant-loop-i
invariant-loop-i l = Left l.n l.digits l.rest l.i
