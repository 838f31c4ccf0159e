-- `settle::settle`: in the column, or behind it.
use Rattle.std.proofs.Common.{ℕ, ◌-◌, List, get_or, sym, ap, ◌∙◌}
use Rattle.session_words.specs.Layout.{threshold_at, starts_from}
use Rattle.mapper.specs.Walking.{Place, place_of}
use Rattle.mapper.proofs.Walking.{settled_in, words_in, settled_next, words_next}
use Rattle.mapper.proofs.settle.settle.Goals as goal

pub returns-then-p-columns : goal.returns-then-p-columns
returns-then-p-columns c = record {
  value = sym (settled_in c.args.work.now c.args.last.columns c.args.p c.if-p-columns.true);
  work_after = sym (words_in c.args.work.now c.args.last.columns c.args.p c.if-p-columns.true);
}

-- the place at the top of the next column, by the words once the column is left
abbrev top : ℕ → List ℕ → Place
top columns words = place_of (columns - 1) 0 (get_or words starts_from 0) (get_or words threshold_at 0)

pub returns : goal.returns
returns c = record {
  value = ap (top c.args.last.columns) c.leave_column.ensures ∙ sym (settled_next c.args.work.now c.args.last.columns c.args.p c.if-p-columns.false);
  work_after = c.leave_column.ensures ∙ sym (words_next c.args.work.now c.args.last.columns c.args.p c.if-p-columns.false);
}
