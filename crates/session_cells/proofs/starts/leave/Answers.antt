use Prim.Native.Nat.{ℕ, ◌*◌, ◌≤◌, ◌<◌}
use native.Mathlib.Omega.{arith}
use lib.ListN.{length}
use Rattle.session_words.specs.Layout.{block_rows}
use Rattle.session_cells.proofs.Leaving.{none_lowered, one_lowered, all_lowered}
use Rattle.session_cells.proofs.starts.leave.Goals as goal

pub loop-b-init : goal.loop-b-init
loop-b-init c =
    let before : (k : ℕ) → k < c.div_ceil-b.result → k * block_rows < c.args.back = λ k l. omega (arith, c.div_ceil-b.ensures) in
    none_lowered c.args.back c.args.column _ c.args.starts.now before

pub loop-b-preserved : goal.loop-b-preserved
loop-b-preserved c =
    let back : c.args.back ≤ c.loop-b.b * block_rows = omega (arith, c.div_ceil-b.ensures) in
    let own : c.loop-b.b * block_rows ≤ c.args.column = omega (arith, c.min-to.ensures) in
    one_lowered c.args.back c.args.column c.loop-b.b _ _ _ back own (omega (arith, c.min-to.ensures)) c.lowered.ensures c.loop-b.invariant

pub returns : goal.returns
returns c =
    let starts = c.args.starts.now in
    let behind : (k : ℕ) → c.loop-b.b ≤ k → k < length starts → c.args.column < k * block_rows = λ k l h. omega (arith, c.min-to.ensures) in
    all_lowered c.args.back c.args.column c.loop-b.b starts _ behind c.loop-b.invariant
