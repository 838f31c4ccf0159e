-- `nearest` meets its contract: the order of twice the remainder and the divisor takes the tests of `rounded`.
use Rattle.std.proofs.Common.{arith}
use native.Mathlib.Nat.{div-le_self, mod-lt}
use borrow.Author.Rules.{rules}
use Rattle.std.proofs.lemmas.Bool.Decides.{nat_tests}
use Rattle.per_mille.specs.Rounding.{even_of, rounded, nearest}
use Rattle.per_mille.proofs.nearest.Goals as goal

pub overflow_mul-twice : goal.overflow_mul-twice
overflow_mul-twice c = search (rules, mod-lt c.args.dividend c.requires.0)

pub returns-in-Less : goal.returns-in-Less
unfolding nearest rounded
returns-in-Less c = grind (arith, nat_tests)

pub overflow_add-result : goal.overflow_add-result
overflow_add-result c = search (rules, div-le_self c.args.dividend c.args.divisor)

pub returns-in-Equal : goal.returns-in-Equal
unfolding nearest rounded even_of
returns-in-Equal c = grind (arith, nat_tests)

pub overflow_add-result-in-Greater : goal.overflow_add-result-in-Greater
overflow_add-result-in-Greater c = search (rules, div-le_self c.args.dividend c.args.divisor)

pub returns-in-Greater : goal.returns-in-Greater
unfolding nearest rounded
returns-in-Greater c = grind (arith, nat_tests)
