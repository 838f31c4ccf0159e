use mathlib.Core.Path.{refl, sym}
use Rattle.session_cells.proofs.Passing.{number_matters}
use Rattle.session_cells.proofs.numbers.NumberSeen.is_reached.Goals as goal

pub returns : goal.returns
returns c = sym (number_matters c.args.line _ c.args.m c.args.x c.requires _ c.score_word.ensures refl)
