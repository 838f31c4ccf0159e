-- The k-mers read have ranks above `low`, and stand in their slots.
use Rattle.winnowing.proofs.Loops.{AboveRead}
use Rattle.winnowing.proofs.reading.read_above.Given as goal

abbrev pub invariant-loop-at : goal.invariant-loop-at
invariant-loop-at l =
    AboveRead l.last l.block.base l.block.letters.now l.fn.ranks l.ranks l.low l.fn.reached.at l.fn.reached.code l.at l.code
