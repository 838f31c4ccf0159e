-- `main` ends and stays within its buffers. Its loop keeps what `next_prints` asks of it: the two sessions in hand are such that the pieces so far
-- and the rest make up an output. That the pieces are written, each once and in order, is no part of the statement, since `io` says nothing of it.
use Rattle.std.proofs.Common.{arith, sym}
use Prim.Native.Nat.{zero-le}
use lib.ListN.{length-replicate}
use lib.Seq.{length-take-le}
use Rattle.std.specs.Prelude.{ℕ}
use Rattle.list_line.proofs.Writers.{written_inside}
use Rattle.list_output.proofs.Next.{next_prints}
use Rattle.list_output.proofs.Whole.{begin_prints, after_sessions}
use Rattle.maplist.proofs.main.Goals as goal

pub slice_bounds-out-end : goal.slice_bounds-out-end
slice_bounds-out-end c =
    let inside = written_inside c.begin-begun.ensures.begun.first zero-le in omega (arith, inside, c.begin-begun.auto.out)

pub slice_bounds-write_all-end : goal.slice_bounds-write_all-end
slice_bounds-write_all-end c =
    let inside = written_inside c.begin-begun.ensures.begun.first zero-le in
    sym (length-take-le _ _ (omega (arith, inside, c.begin-begun.auto.out)))

pub loop-left-init : goal.loop-left-init
loop-left-init c = (
  _,
  _,
  after_sessions c.in-Some.is
      (begin_prints _ _ _ _ _ (length-replicate {A = ℕ} 4096 0) (length-replicate {A = ℕ} 16384 0) (length-replicate {A = ℕ} 16384 0)
      (omega (arith, c.large_buffer-out.ensures)) c.begin-begun.result _ _ _ _ c.begin-begun.ensures),
)

pub loop-left-smaller : goal.loop-left-smaller
loop-left-smaller c =
    (next_prints _ _ _ _ _ _ _ _ _ _ c.loop-left.invariant.2 c.loop-left-test.true _ c.fill-filled.result _ _ _
    (omega (arith, c.loop-left-test.array_long)) c.fill-filled.ensures).0

pub loop-left-preserved : goal.loop-left-preserved
loop-left-preserved c = (
  _,
  _,
  (next_prints _ _ _ _ _ _ _ _ _ _ c.loop-left.invariant.2 c.loop-left-test.true _ c.fill-filled.result _ _ _
      (omega (arith, c.loop-left-test.array_long)) c.fill-filled.ensures).1,
)
