-- Each word notes its place in its own slot.
use Rattle.marking.proofs.Heads.{noting_none, noting_more}
use Rattle.marking.proofs.lookup.fill_heads.Goals as goal

pub loop-i-init : goal.loop-i-init
loop-i-init c = noting_none _ _ c.requires.none

pub loop-i-preserved : goal.loop-i-preserved
loop-i-preserved c = noting_more _ _ _ _ c.loop-i.invariant c.loop-i-test.true c.slot.ensures.value c.slot.ensures.bound
