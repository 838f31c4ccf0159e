-- `update::update_one`: what `pass_one` has passed in the part is the update of one cell.
use Rattle.std.proofs.Common.{ap, ◌∙◌, arith}
use Rattle.session_cells.specs.Passing.{Update}
use Rattle.mapper.specs.Walking.{middle, with_middle, with_part}
use Rattle.mapper.proofs.Walking.{cell_is}
use Rattle.mapper.proofs.update.update_one.Goals as goal

pub returns : goal.returns
unfolding with_middle middle
returns c =
    let place = c.args.place in
    let e = cell_is c.args.small.terms place.columns place.row place.m place.highest c.args.work.now c.line_of-line.result
    place.few_columns (omega arith) c.line_of-line.ensures
    c.requires in
    record {
      value = c.pass_one.ensures.value ∙ ap (λ (u : Update). u.answer) e;
      work_after = ap (with_part c.args.work.now) (c.pass_one.ensures.part_after ∙ ap (λ (u : Update). u.part) e);
    }
