-- `scan::all_kmers` meets its contract: the block at hand is passed, and what is put and what is still to pick make up what there was to pick
-- at first.
use Prim.Native.Nat.{suc, ◌-◌}
use native.Mathlib.Nat.{le_refl, le_trans, le-add_right, add-le-add}
use mathlib.Core.Path.{◌≡◌, ◌∙◌}
use mathlib.Core.List.{[]}
use Rattle.kmers.specs.Places.{run_end}
use Rattle.minimizers.proofs.Picks.{picked_none}
use Rattle.minimizers.proofs.Runs.{run_end_within}
use Rattle.winnowing.specs.Scan.{to_pick}
use Rattle.winnowing.proofs.Steps.{run_end_same}
use Rattle.winnowing.proofs.Positions.{sum_fits, block_fits, block_falls}
use Rattle.winnowing.proofs.Passing.{put_on}
use native.Mathlib.Omega.{arith}
use Rattle.winnowing.proofs.scan.all_kmers.Goals as goal

pub overflow_add-block : goal.overflow_add-block
overflow_add-block c =
    let ends = (run_end_within c.args.block.now.letters.now c.args.reached.at c.requires.in_letters).1 in
    block_fits c.loop-block.invariant.0.begins (le_trans c.loop-block.invariant.1.standing.within ends) c.args.block.now.few

pub overflow_add-s : goal.overflow_add-s
overflow_add-s c =
    let ends = (run_end_within c.args.block.now.letters.now c.args.reached.at c.requires.in_letters).1 in
    sum_fits (le_trans c.loop-block.invariant.1.standing.within ends) c.args.block.now.few

pub overflow_add-s-in-loop-block : goal.overflow_add-s-in-loop-block
overflow_add-s-in-loop-block c =
    let ends = (run_end_within c.args.block.now.letters.now c.args.reached.at c.requires.in_letters).1 in
    sum_fits (le_trans c.loop-block.invariant.1.standing.within ends) c.args.block.now.few

pub read-requires : goal.read-requires
read-requires c =
    let ends = (run_end_within c.args.block.now.letters.now c.args.reached.at c.requires.in_letters).1 in
    rw c.loop-block.invariant.0.same (le_trans c.loop-block.invariant.1.standing.within ends)

pub pass_kmers-s-requires-in-loop-block-clause-in_letters : goal.pass_kmers-s-requires-in-loop-block-clause-in_letters
pass_kmers-s-requires-in-loop-block-clause-in_letters c =
    let ends = (run_end_within c.args.block.now.letters.now c.args.reached.at c.requires.in_letters).1 in
    let within = le_trans (le-add_right c.loop-block.s.at c.args.measures.last) c.loop-block.invariant.1.standing.within in
    rw (c.read.ensures.0, c.loop-block.invariant.0.same) (le_trans within ends)

pub pass_kmers-s-requires-in-loop-block-clause-standing : goal.pass_kmers-s-requires-in-loop-block-clause-standing
pass_kmers-s-requires-in-loop-block-clause-standing c =
    let at = c.loop-block.s.at in
    let is = c.loop-block.invariant.1.standing in
    let same = run_end_same c.args.block.now.letters.now c.args.reached.at at is.start
    (le_trans (le-add_right at c.args.measures.last) is.within) in
    rw (c.read.ensures.0, c.loop-block.invariant.0.same)
    record { start = le_refl at; within = rw same is.within; counted = is.counted; has_room = is.has_room }

pub loop-block-smaller : goal.loop-block-smaller
loop-block-smaller c =
    let ends = (run_end_within c.args.block.now.letters.now c.args.reached.at c.requires.in_letters).1 in
    rw c.read.ensures.1
    (block_falls c.loop-block.block.base c.loop-block-test.true (le_trans c.loop-block.invariant.1.standing.within ends))

pub overflow_add-result : goal.overflow_add-result
overflow_add-result c =
    let ends = (run_end_within c.args.block.now.letters.now c.args.reached.at c.requires.in_letters).1 in
    sum_fits (le_trans c.loop-block.invariant.1.standing.within ends) c.args.block.now.few

pub loop-block-preserved : goal.loop-block-preserved
loop-block-preserved c =
    let letters = c.args.block.now.letters.now in
    let from = c.args.reached.at in
    let last = c.args.measures.last in
    let turn = c.loop-block in
    let is = turn.invariant.1 in
    let next = c.pass_kmers-s-in-loop-block in
    let at = next.result.at in
    let letters_same = c.read.ensures.0 ∙ turn.invariant.0.same in
    let passes = rw letters_same at next.ensures.passes in
    let standing = rw letters_same at next.ensures.standing in
    let put = rw letters_same at next.ensures.put in
    let same = run_end_same letters from turn.s.at is.standing.start (le_trans (le-add_right turn.s.at last) is.standing.within) in (
      record {
        same = letters_same;
        begins = rw c.read.ensures.1 (add-le-add standing.start (le_refl last));
        passed = record { most = passes.most; ended = λ h. passes.ended h ∙ same };
      },
      record {
        standing = record {
          start = le_trans is.standing.start standing.start;
          within = rw same at standing.within;
          counted = standing.counted;
          has_room = standing.has_room;
        };
        in_hand = rw letters_same at next.ensures.in_hand;
        put = put_on last 1 c.args.measures.room letters from turn.s.at turn.s.at turn.s.at at at same turn.s.entries next.result.entries
            c.args.reached.entries turn.codes turn.positions next.new.codes next.new.positions c.args.codes.now c.args.positions.now
            (to_pick last 1 letters from from from) put is.put;
      },
    )

pub returns-clause-passes : goal.returns-clause-passes
returns-clause-passes c =
    let letters = c.args.block.now.letters.now in
    let from = c.args.reached.at in
    let last = c.args.measures.last in
    let turn = c.loop-block in
    let is = turn.invariant.1 in
    let end = turn.invariant.0.passed.ended c.loop-block-test.false in
    let none : to_pick last 1 letters from turn.s.at turn.s.at ≡ [] =
    picked_none (suc last) letters 1 (run_end letters from - last) (le_refl 1) turn.s.at turn.s.at (omega (arith, end)) in
    record {
      begins = turn.invariant.0.begins;
      ended = end;
      counted = le_trans is.standing.counted (le-add_right turn.s.at last);
      put = λ es. rw none at (is.put es);
    }
