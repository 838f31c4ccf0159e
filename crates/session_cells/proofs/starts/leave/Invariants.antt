-- The words before b are as they are to be, those from b on as they were.
use Rattle.session_cells.proofs.Leaving.{Lowering}
use Rattle.session_cells.proofs.starts.leave.Given as goal

abbrev pub invariant-loop-b : goal.invariant-loop-b
invariant-loop-b l = Lowering l.back l.column l.b l.fn.starts l.starts
