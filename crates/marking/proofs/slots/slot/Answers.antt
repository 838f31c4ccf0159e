-- The hash of a word is the definition's.
use Rattle.std.proofs.Common.{refl}
use Rattle.marking.specs.Slots.{slot_of}
use Rattle.marking.proofs.slots.slot.Goals as goal

pub returns-clause-value : goal.returns-clause-value
unfolding slot_of
returns-clause-value c = refl
