-- A slot holds at most the words passed, and each word adds one to its own.
use Rattle.std.proofs.Common.{arith}
use Rattle.sorting.proofs.Passes.{tallied_none, tallied_more, tallied_le}
use Rattle.marking.proofs.Deciding.tally.Goals as goal

pub loop-word-init : goal.loop-word-init
loop-word-init c = tallied_none _ _ _ _ c.requires

pub overflow_add-slots : goal.overflow_add-slots
overflow_add-slots c = omega (arith, tallied_le _ _ _ _ _ _ c.loop-word.invariant c.slot.ensures.bound, c.args.self.few)

pub loop-word-preserved : goal.loop-word-preserved
loop-word-preserved c = tallied_more _ _ _ _ _ _ c.loop-word.invariant c.loop-word-test.true c.slot.ensures.value c.slot.ensures.bound
