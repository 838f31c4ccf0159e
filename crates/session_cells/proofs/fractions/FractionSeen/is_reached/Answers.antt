use mathlib.Core.Path.{sym}
use Rattle.session_cells.proofs.Passing.{fraction_matters}
use Rattle.session_cells.proofs.fractions.FractionSeen.is_reached.Goals as goal

pub returns : goal.returns
returns c = sym (fraction_matters c.args.line _ c.args.m c.args.x c.requires _ c.divisor.ensures (sym c.is_at_most.ensures))
