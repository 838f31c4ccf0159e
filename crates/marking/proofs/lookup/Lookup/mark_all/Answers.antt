-- Each turn writes the mark of one word more.
use Rattle.marking.proofs.Heads.{marks_more}
use Rattle.marking.proofs.lookup.Lookup.mark_all.Goals as goal

pub loop-i-preserved : goal.loop-i-preserved
loop-i-preserved c =
    let at = c.loop-i in
    marks_more c.args.self.list.now c.args.words.now c.args.marks.now at.marks at.i c.mark.result c.requires c.loop-i-test.true c.mark.ensures at.invariant
