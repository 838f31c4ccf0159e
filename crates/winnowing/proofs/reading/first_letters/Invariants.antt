-- The code of the letters read, all of the run.
use Rattle.winnowing.proofs.Loops.{LettersRead}
use Rattle.winnowing.proofs.reading.first_letters.Given as goal

abbrev pub invariant-loop-at : goal.invariant-loop-at
invariant-loop-at l = LettersRead l.block.letters.now l.from l.at l.code
