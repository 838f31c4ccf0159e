-- One name that opens every definition of this crate, for proofs that compute.
use Rattle.list_line.specs.Line.{decimal, signed, shown_score, line, fitting}
use Rattle.list_line.specs.Writing.{over_from}

unfoldable pub list_line_computes : Unit {0}
unfolding decimal signed shown_score line fitting over_from
list_line_computes = tt
