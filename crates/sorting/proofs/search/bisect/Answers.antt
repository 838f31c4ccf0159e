-- A turn halves what is left as the definition does, and nothing is left at the end.
use Rattle.std.proofs.Common.{◌+◌, ◌/◌, ◌∙◌, sym, refl, arith}
use Rattle.std.proofs.Math.Nat.{mul-le-mul_left}
use Rattle.sorting.specs.Searching.{searched}
use Rattle.sorting.proofs.Searching.{halved_more, halved_none}
use Rattle.sorting.proofs.search.bisect.Goals as goal

pub loop-left-init : goal.loop-left-init
unfolding searched
loop-left-init c = (omega arith, refl)

pub loop-left-preserved : goal.loop-left-preserved
loop-left-preserved c = (
  omega (arith, mul-le-mul_left ((c.loop-left.left + 1) / 2) c.one_if_below.ensures.bound),
  rw c.one_if_below.ensures.value (halved_more _ _ c.loop-left.at c.loop-left.left c.loop-left-test.true ∙ c.loop-left.invariant.1),
)

pub returns : goal.returns
returns c = sym (halved_none _ _ _ _ c.loop-left-test.false) ∙ c.loop-left.invariant.1
