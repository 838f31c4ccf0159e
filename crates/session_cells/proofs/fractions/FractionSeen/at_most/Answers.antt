use Rattle.session_records.specs.Words.{at_most}
use Rattle.session_cells.proofs.fractions.FractionSeen.at_most.Goals as goal

pub returns : goal.returns
unfolding at_most
returns c = rw (c.numerator.ensures.0, c.denominator.ensures.0, c.numerator-2.ensures.0, c.denominator-2.ensures.0)
