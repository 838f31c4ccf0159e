-- `terms::terms_of`: by the kind of score.
use Rattle.std.proofs.Common.{◌≢◌, get_or, w32, arith, rules}
use Rattle.std.proofs.lemmas.Int.{to_z-of_z}
use mir.Val.{SFits}
use borrow.Author.Tests.{ne_eqb}
use Rattle.session_words.specs.FirstWords.{kind_at}
use Rattle.mapper.specs.Walking.{terms_in}
use Rattle.mapper.proofs.terms.terms_of.Goals as goal
use Rattle.mapper.proofs.terms.terms_of.Goals.{in-1, in_default}

pub returns : goal.returns
unfolding terms_in
returns c =
    elim c.match-work-offset16.branch [
      | in-1 w ↦ rw (w.scoring-is, w.in-1.is)
      | in_default w ↦
          let other : get_or c.args.work.now kind_at 0 ≢ 1 = omega arith in
          let fits : SFits w32 c.unbiased-threshold.result = search rules in
          let linear = simp to_z-of_z at w.scoring-is in
          rw (linear, ne_eqb (get_or c.args.work.now kind_at 0) 1 other, c.unbiased-threshold.ensures)
    ]
