use mathlib.Core.Path.{refl, sym, ap, ◌∙◌}
use Rattle.session_cells.specs.Passing.{Update}
use Rattle.session_cells.proofs.Passing.{greater_of, entered_of, cell_known, pass_low, pass_last}
use Rattle.session_cells.proofs.rows.pass_row.Goals as goal

pub returns-then-not-is_reached : goal.returns-then-not-is_reached
returns-then-not-is_reached g c =
    let next = c.args.next in
    let at = cell_known c.args.line next.row next.m next.highest c.args.part.now _ c.requires.1 refl c.reaches-one.ensures
    c.greater-seen.ensures c.lowered-m.ensures in
    let reached = rw c.of.ensures at c.is_reached.ensures in
    let e = sym (pass_low _ _ _ _ _ _ _ _ _ at 0 (sym reached ∙ c.if-not-is_reached.true)) in
    record { value = c.passed.ensures ∙ ap (λ (u : Update). u.answer) e; part_after = ap (λ (u : Update). u.part) e }

pub returns : goal.returns
returns g c =
    let line = c.args.line in
    let next = c.args.next in
    let kind = c.requires.1 in
    let at = cell_known line next.row next.m next.highest c.args.part.now _ kind c.score_word-score.ensures c.reaches-one.ensures
    c.greater-seen.ensures c.lowered-m.ensures in
    let reached = rw c.of.ensures at c.is_reached.ensures in
    let e = sym (pass_last _ _ _ _ _ _ _ _ _ at c.enter.new.part c.greater-highest.result (sym reached ∙ c.if-not-is_reached.false)
    (entered_of line _ kind _ _ _ _ c.enter.ensures) (greater_of line _ kind _ _ c.greater-highest.ensures)
    c.is_reasonable.result c.is_reasonable.ensures) in
    record { value = c.passed-2.ensures ∙ ap (λ (u : Update). u.answer) e; part_after = ap (λ (u : Update). u.part) e }
