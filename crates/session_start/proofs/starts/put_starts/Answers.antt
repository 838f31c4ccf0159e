-- `starts::put_starts` meets its contract.
use Rattle.std.proofs.Common.{◌≡◌, ◌+◌, ◌-◌, suc, eqb, get_or, arith}
use Rattle.session_words.specs.Layout.{reach_from}
use Rattle.session_start.proofs.BlockStarts.{begun_none, begun_more, begun_all, byte_bit, byte_le_one}
use Rattle.session_start.proofs.starts.put_starts.Goals as goal

pub loop-i-init : goal.loop-i-init
loop-i-init c = record { at_most = omega arith; begun = λ p g e holds. begun_none p g c.args.h c.args.work.now }

pub loop-i-preserved : goal.loop-i-preserved
loop-i-preserved c =
    let at = c.loop-i in
    let next : at.i ≡ suc (at.i - 1) = omega arith in
    record {
      at_most = omega (arith, byte_le_one (eqb (get_or at.work (reach_from + (at.i - 1)) 0) c.args.h));
      begun =
          λ p g e holds.
          begun_more p g c.args.h e c.requires c.args.work.now at.work (omega arith) (omega arith) holds (at.i - 1) at.i at.m _ next (omega arith)
          (byte_bit (eqb (get_or at.work (reach_from + (at.i - 1)) 0) c.args.h)) (at.invariant.begun p g e holds);
    }

pub returns : goal.returns
returns c =
    let at = c.loop-i in
    let end : at.i ≡ 0 = omega arith in
    λ p g e holds.
    rw c.block_count.ensures
    (begun_all p g c.args.h e c.requires c.args.work.now at.work (omega arith) (omega arith) at.m (rw end at (at.invariant.begun p g e holds)))
