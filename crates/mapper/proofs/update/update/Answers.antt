-- `update::update`: what `pass` has passed in the part is the column's update.
use Rattle.std.proofs.Common.{ap, ◌∙◌, arith}
use Rattle.session_cells.specs.Passing.{Update}
use Rattle.mapper.specs.Walking.{middle, with_middle, with_part}
use Rattle.mapper.proofs.Walking.{update_is}
use Rattle.mapper.proofs.update.update.Goals as goal

pub returns : goal.returns
unfolding with_middle middle
returns c =
    let place = c.args.place in
    let e = update_is c.args.small.terms place.columns place.row place.m place.highest c.args.work.now c.line_of-line.result
    place.few_columns (omega arith) c.line_of-line.ensures
    c.args.left c.smaller.result c.requires place.row_within c.smaller.ensures in
    record {
      value = c.pass.ensures.value ∙ ap (λ (u : Update). u.answer) e;
      work_after = ap (with_part c.args.work.now) (c.pass.ensures.part_after ∙ ap (λ (u : Update). u.part) e);
    }
