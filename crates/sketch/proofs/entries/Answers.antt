-- With no room winnowing counts the entries and writes none.
use Rattle.std.proofs.Common.{◌≡◌, ◌+◌, ap, ◌∙◌, [], length, zero-add, zero-le}
use Rattle.minimizers.specs.Sketch.{sketch}
use Rattle.winnowing.specs.Winnowed.{Written, wrote, winnowed}
use Rattle.winnowing.proofs.Within.{winnowed_within}
use Rattle.sketch.proofs.Buffers.{written_nowhere}
use Rattle.sketch.proofs.entries.Goals as goal

pub returns : goal.returns
returns c =
    let a = c.args in
    let s = sketch a.k a.w a.letters.now in
    let all : winnowed a.k a.w a.letters.now 0 [] [] ≡ wrote (0 + length s) [] [] =
    winnowed_within a.k a.w a.letters.now 0 [] [] c.requires zero-le zero-le
    ∙ written_nowhere 0 [] [] s in
    ap (λ (x : Written). x.entries) (c.winnow.ensures ∙ all) ∙ zero-add (length s)
