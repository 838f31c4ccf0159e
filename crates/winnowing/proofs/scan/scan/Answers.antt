-- `scan::scan` meets its contract: what is put and the sketch of the letters from the next run on end as the whole sketch does.
use Prim.Native.Nat.{◌+◌}
use native.Mathlib.Nat.{le_of_lt, le_trans, le-add_right}
use native.Mathlib.Omega.{arith}
use mathlib.Core.Path.{◌∙◌}
use Rattle.minimizers.specs.Sketch.{sketch}
use Rattle.minimizers.specs.Places.{sketch_from}
use Rattle.minimizers.proofs.Runs.{run_end_within}
use Rattle.winnowing.proofs.Positions.{run_ended, next_at}
use Rattle.winnowing.proofs.Passing.{run_passed, next_put, fewer_left}
use Rattle.winnowing.proofs.scan.scan.Goals as goal

pub overflow_add-end : goal.overflow_add-end
overflow_add-end c =
    let is = rw c.in-Some.is at c.loop-next.invariant in
    let passes = rw is.1.same at c.run-end.ensures.passes in
    let there = run_end_within c.args.letters.now c.in-Some.at (le_of_lt is.0) in
    omega (arith, run_ended passes.ended there.0 there.1, c.requires.le_k.4)

pub loop-next-smaller : goal.loop-next-smaller
loop-next-smaller c =
    let letters = c.args.letters.now in
    let at = c.in-Some.at in
    let is = rw c.in-Some.is at c.loop-next.invariant in
    let end = c.run-end.result.at in
    let passes = rw is.1.same at c.run-end.ensures.passes in
    let here = le_of_lt is.0 in
    let there = run_end_within letters at here in
    let passed = run_ended passes.ended there.0 there.1 in
    rw c.in-Some.is (fewer_left at (end + 1) letters c.next_run-next-in-Some.result (omega (arith, passed.0)) here c.next_run-next-in-Some.ensures)

pub loop-next-preserved : goal.loop-next-preserved
loop-next-preserved c =
    let args = c.args in
    let letters = args.letters.now in
    let turn = c.loop-next in
    let at = c.in-Some.at in
    let is = rw c.in-Some.is at turn.invariant in
    let put = is.1 in
    let run = c.run-end in
    let passes = rw put.same at run.ensures.passes in
    let end = run.result.at in
    let here = le_of_lt is.0 in
    let there = run_end_within letters at here in
    next_put args.k args.w args.room run.new.block.base (end + 1) run.result.entries letters run.new.block.letters.now
    args.codes.now args.positions.now run.new.codes run.new.positions c.next_run-next-in-Some.result c.requires.le_k.0 c.requires.le_k.2
    (record {
      same = run.ensures.same ∙ put.same;
      begins = le_trans passes.begins (le-add_right end 1);
      counted = le_trans passes.counted (le-add_right end 1);
      within = next_at (run_ended passes.ended there.0 there.1).1;
      has_room = record {
        for_codes = rw run.auto.codes put.has_room.for_codes;
        for_positions = rw run.auto.positions put.has_room.for_positions;
      };
      put = run_passed args.k args.w args.room at end turn.entries run.result.entries letters turn.codes turn.positions
          run.new.codes run.new.positions c.requires.le_k.0 here passes.ended passes.put
          ∙ put.put;
    })
    c.next_run-next-in-Some.ensures

pub returns : goal.returns
unfolding sketch sketch_from
returns c = rw c.in_default.is at c.loop-next.invariant
