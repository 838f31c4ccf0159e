-- The ranks of the k-mers read stand in their slots.
use Rattle.winnowing.proofs.Loops.{KmersRead}
use Rattle.winnowing.proofs.reading.first_window.Given as goal

abbrev pub invariant-loop-at : goal.invariant-loop-at
invariant-loop-at l = KmersRead l.last l.block.base l.block.letters.now l.ranks l.fn.begun.at l.at l.code
