-- `per_mille` meets its contract: its tests are those of `is_refused`, and an accepted per mille is at most 1,000, which fits.
use Rattle.std.proofs.Common.{arith}
use Rattle.std.proofs.lemmas.Bool.Decides.{nat_tests}
use Rattle.per_mille.specs.PerMille.{per_mille, is_refused, per_mille_answer}
use Rattle.per_mille.proofs.PerMille.{per_mille_at_most}
use Rattle.per_mille.proofs.per_mille.Goals as goal

pub returns-then-m-len-clause-answer : goal.returns-then-m-len-clause-answer
unfolding per_mille_answer is_refused
returns-then-m-len-clause-answer c = grind (arith, nat_tests)

pub overflow_cast-result : goal.overflow_cast-result
unfolding per_mille
overflow_cast-result c = grind (arith, per_mille_at_most c.args.m c.args.len c.args.size)

pub returns-clause-answer : goal.returns-clause-answer
unfolding per_mille_answer is_refused per_mille
returns-clause-answer c = grind (arith, nat_tests)

pub returns-clause-at_most : goal.returns-clause-at_most
unfolding per_mille
returns-clause-at_most c = grind (arith, per_mille_at_most c.args.m c.args.len c.args.size)
