-- A head is noted for each slot that a word passed is in.
use Rattle.marking.proofs.Heads.{Noting}
use Rattle.marking.proofs.lookup.fill_heads.Given as goal

abbrev pub invariant-loop-i : goal.invariant-loop-i
invariant-loop-i l = Noting l.list l.i l.heads
