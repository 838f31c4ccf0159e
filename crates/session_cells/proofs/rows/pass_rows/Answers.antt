use native.Mathlib.Omega.{arith}
use mathlib.Core.Path.{sym, ap, ◌∙◌}
use Rattle.session_cells.specs.Passing.{Update}
use Rattle.session_cells.proofs.Passing.{greater_of, entered_of}
use Rattle.session_cells.proofs.Pausing.{pause_within, pause_stop, pause_on}
use Rattle.session_cells.proofs.rows.pass_rows.Goals as goal

pub overflow_sub-q : goal.overflow_sub-q
overflow_sub-q g c =
    omega (arith, pause_within c.args.line c.args.to _ _ _ _ _ c.loop-next.invariant.within c.quiet_rows-q.ensures c.loop-next-test.true)

pub enter-requires : goal.enter-requires
enter-requires g c =
    let within = pause_within c.args.line c.args.to _ _ _ _ _ c.loop-next.invariant.within c.quiet_rows-q.ensures c.loop-next-test.true in
    omega (arith, within.0, within.1, c.requires.1)

pub overflow_sub-q-in-loop-next : goal.overflow_sub-q-in-loop-next
overflow_sub-q-in-loop-next g c =
    omega (arith, pause_within c.args.line c.args.to _ _ _ _ _ c.loop-next.invariant.within c.quiet_rows-q.ensures c.loop-next-test.true)

pub returns-then-is_reasonable : goal.returns-then-is_reasonable
returns-then-is_reasonable g c =
    let line = c.args.line in
    let kind = c.requires.2 in
    let turn = c.loop-next in
    let e = sym (pause_stop line c.args.to _ _ _ _ _ turn.invariant.within c.quiet_rows-q.ensures _ _ _ c.reaches.ensures
    (greater_of line _ kind _ _ c.greater.ensures) (entered_of line _ kind _ _ _ _ c.enter.ensures)
    (sym c.is_reasonable.ensures ∙ c.if-is_reasonable.true)) ∙ turn.invariant.same in
    record { value = c.passed.ensures ∙ ap (λ (u : Update). u.answer) e; part_after = ap (λ (u : Update). u.part) e }

pub loop-next-smaller : goal.loop-next-smaller
loop-next-smaller g c =
    let within = pause_within c.args.line c.args.to _ _ _ _ _ c.loop-next.invariant.within c.quiet_rows-q.ensures c.loop-next-test.true in
    omega (arith, within.0, within.1)

pub loop-next-preserved : goal.loop-next-preserved
loop-next-preserved g c =
    let line = c.args.line in
    let kind = c.requires.2 in
    let turn = c.loop-next in
    record {
      within = (pause_within line c.args.to _ _ _ _ _ turn.invariant.within c.quiet_rows-q.ensures c.loop-next-test.true).1;
      same = sym (pause_on line c.args.to _ _ _ _ _ turn.invariant.within c.quiet_rows-q.ensures _ _ _ c.reaches.ensures
          (greater_of line _ kind _ _ c.greater.ensures) (entered_of line _ kind _ _ _ _ c.enter.ensures)
          (sym c.is_reasonable.ensures ∙ c.if-is_reasonable.false)) ∙ turn.invariant.same;
    }
