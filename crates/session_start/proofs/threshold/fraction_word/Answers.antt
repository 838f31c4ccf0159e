-- `threshold::fraction_word` meets its contract.
use Rattle.session_start.proofs.ScoreWords.{some_fraction}
use Rattle.session_start.proofs.threshold.fraction_word.Goals as goal

pub returns : goal.returns
returns c = some_fraction c.args.f c.args.g c.if-f-lt1.false
