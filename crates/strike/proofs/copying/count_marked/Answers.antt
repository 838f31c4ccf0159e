-- The chain adds the marks up, as the sum of the contract does.
use Rattle.std.proofs.Common.{arith, refl}
use Rattle.std.proofs.lemmas.Grind.{common_steps}
use Rattle.std.proofs.lemmas.List.Recursion.{is_sum_by}
use Rattle.base.specs.Lists.{sum}
use Rattle.strike.proofs.copying.count_marked.Goals as goal

pub returns : goal.returns
returns c = grind (arith, common_steps, is_sum_by sum (λ x. x) refl (λ _ _. refl))
