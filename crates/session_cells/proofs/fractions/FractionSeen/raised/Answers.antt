-- Word 0 is at most each word.
use mathlib.Core.Bool.{true}
use mathlib.Core.Path.{sym}
use Rattle.session_records.specs.Words.{at_most}
use Rattle.session_records.proofs.Words.{word_order}
use Rattle.session_records.proofs.Greater.{greater_none}
use Rattle.session_cells.proofs.fractions.FractionSeen.raised.Goals as goal

pub returns-then-best-eq0 : goal.returns-then-best-eq0
returns-then-best-eq0 c = rw c.if-best-eq0.true (sym (greater_none (at_most true) (word_order true) _))
