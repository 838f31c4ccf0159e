-- Word 0 is at most each word, and of others the answer is the test that led to it.
use mathlib.Core.Bool.{true}
use mathlib.Core.Path.{sym, ◌∙◌}
use Rattle.session_records.specs.Words.{at_most}
use Rattle.session_records.proofs.Words.{word_order}
use Rattle.session_records.proofs.Greater.{greater_first, greater_second, greater_none}
use Rattle.session_cells.proofs.fractions.FractionSeen.greater.Goals as goal

pub returns-then-b-eq0 : goal.returns-then-b-eq0
returns-then-b-eq0 c = rw c.if-b-eq0.true (sym (greater_none (at_most true) (word_order true) _))

pub returns-then-at_most : goal.returns-then-at_most
returns-then-at_most c = sym (greater_first (at_most true) (word_order true) _ _ (sym c.at_most.ensures ∙ c.if-at_most.true))

pub returns-else-at_most : goal.returns-else-at_most
returns-else-at_most c = sym (greater_second (at_most true) (word_order true) _ _ (sym c.at_most.ensures ∙ c.if-at_most.false))
