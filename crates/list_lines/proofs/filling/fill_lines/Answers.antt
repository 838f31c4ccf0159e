-- `filling::fill_lines` meets its contract: each answer of step adds to what is written, or ends the piece.
use Rattle.std.proofs.Common.{arith, refl, ap, ◌∙◌, ◌-◌, ◌≤◌, length}
use Rattle.std.specs.Prelude.{Ok}
use Rattle.list_lines.specs.Pieces.{line_room}
use Rattle.list_lines.proofs.Going.{answered, going_start, going_found, too_many, not_printed, unheld, fills_stopped, fills_finished, fills_other}
use Rattle.list_lines.proofs.Going.{fills_full}
use Rattle.list_lines.proofs.filling.fill_lines.Goals as goal

pub loop-out-init : goal.loop-out-init
loop-out-init c = ((omega arith), going_start _ _ _ _ _ _ _)

pub overflow_sub-out : goal.overflow_sub-out
overflow_sub-out c = c.loop-out.invariant.0

pub returns-then-count-ge-FOUND_LIMIT : goal.returns-then-count-ge-FOUND_LIMIT
returns-then-count-ge-FOUND_LIMIT c =
    let roomy : line_room ≤ length c.loop-out.out - c.loop-out.at = omega (arith, c.loop-out-test.true) in
    let promise = answered c.step.ensures (c.in-Ok-Found.is ∙ ap Ok c.in-Ok-Found.field-0-is) in
    fills_stopped _ _ _ _ _ _ _ _ _ _ _ c.loop-out.invariant.0 c.loop-out.auto.out roomy c.loop-out.invariant.1
    c.loop-out.auto.work c.stopped.result _ _ _ _ _ _ promise (too_many _ _ _ _ _ c.if-count-ge-FOUND_LIMIT.true) _ refl
    c.stopped.ensures.0 c.stopped.ensures.1 c.stopped.ensures.2

pub returns-then-next-at : goal.returns-then-next-at
returns-then-next-at c =
    let roomy : line_room ≤ length c.loop-out.out - c.loop-out.at = omega (arith, c.loop-out-test.true) in
    let promise = answered c.step.ensures (c.in-Ok-Found.is ∙ ap Ok c.in-Ok-Found.field-0-is) in
    let not_held =
    unheld _ _ _ _ _ _ _ _ _ _ _ c.loop-out.invariant.0 c.loop-out.auto.out roomy c.loop-out.invariant.1 _ _ _ _ _ _
    c.put_mapping-next.ensures c.if-next-at.true in
    fills_stopped _ _ _ _ _ _ _ _ _ _ _ c.loop-out.invariant.0 c.loop-out.auto.out roomy c.loop-out.invariant.1
    c.loop-out.auto.work c.stopped-then-next-at.result _ _ _ _ _ _ promise
    (not_printed _ _ _ _ _ c.if-count-ge-FOUND_LIMIT.false not_held) _ (c.put_mapping-next.ensures.none not_held).1
    c.stopped-then-next-at.ensures.0 c.stopped-then-next-at.ensures.1 c.stopped-then-next-at.ensures.2

pub loop-out-smaller : goal.loop-out-smaller
loop-out-smaller c = omega (arith, c.put_mapping-next.ensures.inside c.loop-out.invariant.0, c.put_mapping-next.auto.out, c.if-next-at.false)

pub loop-out-preserved : goal.loop-out-preserved
loop-out-preserved c =
    let roomy : line_room ≤ length c.loop-out.out - c.loop-out.at = omega (arith, c.loop-out-test.true) in
    let promise = answered c.step.ensures (c.in-Ok-Found.is ∙ ap Ok c.in-Ok-Found.field-0-is) in (
      omega (arith, c.put_mapping-next.ensures.inside c.loop-out.invariant.0, c.put_mapping-next.auto.out),
      going_found _ _ _ _ _ _ _ _ _ _ _ c.loop-out.invariant.0 c.loop-out.auto.out roomy c.loop-out.invariant.1
          _ _ _ _ _ _ _ _
          promise
          c.put_mapping-next.ensures
          c.if-count-ge-FOUND_LIMIT.false c.if-next-at.false,
    )

pub returns-in-Ok-Finished : goal.returns-in-Ok-Finished
returns-in-Ok-Finished c =
    let roomy : line_room ≤ length c.loop-out.out - c.loop-out.at = omega (arith, c.loop-out-test.true) in
    let promise = answered c.step.ensures (c.in-Ok-Finished.is ∙ ap Ok c.in-Ok-Finished.field-0-is) in
    fills_finished _ _ _ _ _ _ _ _ _ _ _ c.loop-out.invariant.0 c.loop-out.auto.out roomy c.loop-out.invariant.1
    c.loop-out.auto.work _ _ _ promise refl refl refl

pub returns-in-Ok-Spent : goal.returns-in-Ok-Spent
returns-in-Ok-Spent c =
    let roomy : line_room ≤ length c.loop-out.out - c.loop-out.at = omega (arith, c.loop-out-test.true) in
    let promise = answered c.step.ensures (c.in-Ok-Spent.is ∙ ap Ok c.in-Ok-Spent.field-0-is) in
    let s = c.stopped-in-Ok-Spent in
    fills_other _ _ _ _ _ _ _ _ _ _ _ c.loop-out.invariant.0 c.loop-out.auto.out roomy c.loop-out.invariant.1
    c.loop-out.auto.work s.result _ tt _ promise s.ensures.0 s.ensures.1 s.ensures.2

pub returns-in-Err : goal.returns-in-Err
returns-in-Err c =
    let roomy : line_room ≤ length c.loop-out.out - c.loop-out.at = omega (arith, c.loop-out-test.true) in
    let s = c.stopped-in-Err in
    fills_other _ _ _ _ _ _ _ _ _ _ _ c.loop-out.invariant.0 c.loop-out.auto.out roomy c.loop-out.invariant.1
    c.loop-out.auto.work s.result _ tt _ (answered c.step.ensures c.in-Err.is) s.ensures.0 s.ensures.1 s.ensures.2

pub returns : goal.returns
returns c =
    fills_full _ _ _ _ _ _ _ _ _ _ _ c.loop-out.invariant.1 c.loop-out-test.false c.loop-out.auto.out _ refl refl c.cells_left.ensures
    c.loop-out.auto.work c.loop-out.invariant.0
