-- The words passed whose slot is crowded stand at the start of the buffer.
use Rattle.marking.specs.Slots.{crowds}
use Rattle.marking.proofs.Filter.{Collected}
use Rattle.marking.proofs.Deciding.collect.Given as goal

abbrev pub invariant-loop-word : goal.invariant-loop-word
invariant-loop-word l = Collected (crowds l.self.words.now l.self.limit) l.self.words.now l.word-index l.at l.out
