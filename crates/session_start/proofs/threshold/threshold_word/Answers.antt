-- `threshold::threshold_word` meets its contract: a fraction that is not refused has small numbers.
use Rattle.std.proofs.Common.{sym, ap, ◌∙◌}
use Rattle.session_start.specs.Noting.{bad_scoring}
use Rattle.session_start.proofs.ScoreWords.{small_fraction}
use Rattle.session_start.proofs.threshold.threshold_word.Goals as goal

pub fraction_word-requires : goal.fraction_word-requires
fraction_word-requires c = small_fraction c.in-Jaccard.f c.in-Jaccard.g (sym (ap bad_scoring c.in-Jaccard.is) ∙ c.args.allowed.in_limits)
