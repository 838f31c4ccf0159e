-- Each slot holds as many as there are of the words passed.
use Rattle.sorting.proofs.Passes.{Tallied}
use Rattle.marking.specs.Slots.{slot_count, slot_of}
use Rattle.marking.proofs.Deciding.tally.Given as goal

abbrev pub invariant-loop-word : goal.invariant-loop-word
invariant-loop-word l = Tallied slot_of slot_count l.self.words.now l.word-index l.slots
