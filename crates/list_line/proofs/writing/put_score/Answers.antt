-- `writing::put_score` meets its contract: each kind is passed on to its writer.
use Rattle.std.proofs.Common.{arith}
use Rattle.list_line.specs.Line.{shown_score}
use mir.Facts.{to_z-of_z}
use Rattle.list_line.proofs.writing.put_score.Goals as goal

pub returns-in-Number : goal.returns-in-Number
unfolding shown_score
returns-in-Number c = grind (arith, to_z-of_z, c.put_signed.ensures)

pub returns-in-Fraction : goal.returns-in-Fraction
unfolding shown_score
returns-in-Fraction c = grind (arith, c.put_fraction.ensures)
