-- The lowest of the slots passed, and its rank.
use Rattle.winnowing.proofs.Loops.{LowestSoFar}
use Rattle.winnowing.proofs.windows.lowest.Given as goal

abbrev pub invariant-loop-i : goal.invariant-loop-i
invariant-loop-i l = LowestSoFar l.ranks l.from l.i l.low_at l.low
