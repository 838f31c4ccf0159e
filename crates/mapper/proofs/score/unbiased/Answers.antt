-- `score::unbiased`: the word less 2^31, as its bits.
use Rattle.std.proofs.Common.{◌∙◌, w32, rules}
use Rattle.std.proofs.lemmas.Int.{to_z-of_z}
use mir.Val.{SFits}
use Rattle.mappings.specs.Unbiased.{unbiased}
use Rattle.mapper.proofs.Signed.{word_read}
use Rattle.mapper.proofs.score.unbiased.Goals as goal

pub returns : goal.returns
unfolding unbiased
returns c =
    let fits : SFits w32 c.cast_signed.result = search rules in
    simp to_z-of_z (c.cast_signed.ensures ∙ word_read c.args.word c.ranges.word.fits)
