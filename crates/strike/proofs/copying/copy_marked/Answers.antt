-- Where a marked word is left, there is an index left.
use Rattle.std.proofs.Common.{arith, refl}
use Rattle.strike.proofs.Marked.{copied_index, copied_more, copied_all}
use Rattle.strike.proofs.copying.copy_marked.Goals as goal

pub loop-at-preserved : goal.loop-at-preserved
loop-at-preserved c =
    let held = c.loop-at.invariant.copied in
    record {
      inside = omega (arith, copied_index _ _ _ _ _ _ _ held c.loop-at-test.true);
      copied = copied_more _ _ _ _ _ _ _ _ held c.loop-at-test.true c.requires.words_len (c.requires.by_index c.loop-at.i) c.requires.n_value.1 refl;
    }

pub returns : goal.returns
returns c = copied_all _ _ _ _ _ _ _ c.loop-at.invariant.copied c.loop-at-test.false c.requires.n_value.1
