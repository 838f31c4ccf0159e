use mathlib.Core.Path.{refl, sym, ◌∙◌}
use Rattle.session_cells.proofs.Passing.{cell_known}
use Rattle.session_cells.proofs.Pausing.{quiet_stop, quiet_on}
use Rattle.session_cells.proofs.rows.quiet_rows.Goals as goal

pub returns-then-is_reached : goal.returns-then-is_reached
returns-then-is_reached g c =
    let at = cell_known c.args.line c.loop-i.i c.loop-i.m _ c.args.part.now _ c.requires.2 c.score_word.ensures c.reaches.ensures
    c.raised-seen.ensures c.lowered.ensures in
    rw c.word.ensures
    (sym (quiet_stop _ _ _ _ _ _ _ _ _ at c.args.to c.loop-i-test.true (sym c.is_reached.ensures ∙ c.if-is_reached.true)) ∙ c.loop-i.invariant)

pub loop-i-preserved : goal.loop-i-preserved
loop-i-preserved g c =
    let at = cell_known c.args.line c.loop-i.i c.loop-i.m _ c.args.part.now _ c.requires.2 refl c.reaches-in-loop-i.ensures
    c.raised-seen.ensures c.lowered-m.ensures in
    sym (quiet_on _ _ _ _ _ _ _ _ _ at c.args.to c.loop-i-test.true (sym c.is_reached.ensures ∙ c.if-is_reached.false)) ∙ c.loop-i.invariant
