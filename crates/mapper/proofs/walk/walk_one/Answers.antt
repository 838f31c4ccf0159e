-- `walk::walk_one`: what it passes is the update of one cell.
use Rattle.std.proofs.Common.{◌≡◌, ◌+◌, sym, ap, ◌∙◌, arith}
use Rattle.mapper.specs.Walking.{Walk, spent_walk}
use Rattle.mapper.proofs.Walking.{one_row, one_found, one_spent}
use Rattle.mapper.proofs.walk.walk_one.Goals as goal
use Rattle.mapper.proofs.walk.walk_one.Goals.{After-update_one-p}

-- it stops behind the cell
row_is : (c : After-update_one-p) → c.update_one-p.result.row ≡ c.args.start.row + 1
row_is c = one_row c.args.small.terms _ _ _ _ c.args.work.now _ _ c.requires c.update_one-p.ensures.value c.update_one-p.ensures.work_after

pub invariant_of-place : goal.invariant_of-place
invariant_of-place c =
    let row = row_is (goal.at.invariant_of-place c).After-update_one-p in
    record { few_columns = c.args.start.few_columns; row_within = omega arith }

pub invariant_of-place-2 : goal.invariant_of-place-2
invariant_of-place-2 c =
    let row = row_is (goal.at.invariant_of-place-2 c).After-update_one-p in
    record { few_columns = c.args.start.few_columns; row_within = omega arith }

pub found-requires : goal.found-requires
found-requires c =
    let row = row_is (goal.at.found-requires c).After-update_one-p in
    (omega arith, omega arith, omega arith, omega arith)

pub returns-then-p : goal.returns-then-p
returns-then-p c =
    let e = one_found c.args.small.terms _ _ _ _ _ c.update_one-p.result c.update_one-p.new.work c.requires c.update_one-p.ensures.value
    c.update_one-p.ensures.work_after c.if-p.true in
    record {
      value = c.found.ensures.value ∙ ap (λ (w : Walk). w.answer) (sym e);
      work_after = c.found.ensures.work_after ∙ ap (λ (w : Walk). w.words) (sym e);
    }

pub returns : goal.returns
unfolding spent_walk
returns c =
    let e = one_spent c.args.small.terms _ _ _ _ _ c.update_one-p.result c.update_one-p.new.work c.requires c.update_one-p.ensures.value
    c.update_one-p.ensures.work_after c.if-p.false in
    record {
      value = ap (λ (w : Walk). w.answer) (sym e);
      work_after = c.save.ensures ∙ ap (λ (w : Walk). w.words) (sym e);
    }
