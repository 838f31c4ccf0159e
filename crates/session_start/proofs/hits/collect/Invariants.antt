-- The pass over the text: what is noted of the entries so far.
use Rattle.session_start.proofs.Noting.{Noting}
use Rattle.session_start.proofs.hits.collect.Given as goal

abbrev pub invariant-loop-i : goal.invariant-loop-i
invariant-loop-i l = Noting l.text l.sorted.words.now l.index l.slots l.h l.i
