-- The list has the words that occur too often before the index.
use Rattle.marking.proofs.Runs.{Listed}
use Rattle.marking.proofs.frequent.list_runs.Given as goal

abbrev pub invariant-loop-i : goal.invariant-loop-i
invariant-loop-i l = Listed l.sorted l.limit l.i l.n l.list
