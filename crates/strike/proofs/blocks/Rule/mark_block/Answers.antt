-- The marks are those of the codes, and their sum is the number of entries kept.
use Rattle.std.proofs.Common.{ap, ◌∙◌}
use Rattle.base.specs.Lists.{sum}
use Rattle.marking.proofs.Room.{mark_exact}
use Rattle.strike.proofs.blocks.Rule.mark_block.Goals as goal

pub returns-clause-value : goal.returns-clause-value
returns-clause-value c =
    let a = c.args in
    c.count_marked.ensures
    ∙ ap sum (c.mark_rare.ensures.marks_after ∙ mark_exact a.self.deciding.now a.self.limit a.codes.now a.marks.now a.self.few c.requires.1)

pub returns-clause-marks_after : goal.returns-clause-marks_after
returns-clause-marks_after c =
    let a = c.args in
    c.mark_rare.ensures.marks_after ∙ mark_exact a.self.deciding.now a.self.limit a.codes.now a.marks.now a.self.few c.requires.1
