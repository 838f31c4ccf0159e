-- `reading::read_above` meets its contract: the k-mers read have ranks above `low`, and stand in their slots.
use Prim.Native.Nat.{ℕ, suc, ◌+◌, ◌≤◌, ◌<◌}
use native.Mathlib.Nat.{le_refl}
use native.Mathlib.Omega.{arith}
use mathlib.Core.Path.{◌≡◌, subst}
use borrow.Author.Count.{below_more}
use Rattle.kmers.specs.Places.{rank_at}
use Rattle.minimizers.proofs.Runs.{run_end_within}
use Rattle.winnowing.proofs.Steps.{end_here, run_goes_on, pushed, rank_there, scanned_next}
use Rattle.winnowing.proofs.reading.read_above.Goals as goal

pub loop-at-init : goal.loop-at-init
loop-at-init c = record {
  passed = record { start = le_refl c.args.reached.at; within = c.requires.in_run.1; above = λ q a b. absurd (omega arith) };
  read = λ first is. is;
}

pub digit_at-requires : goal.digit_at-requires
digit_at-requires c =
    let there = run_end_within c.args.block.now.letters.now c.args.reached.at c.requires.in_letters in (
      c.requires.begins,
      omega (arith, c.requires.in_block.begins),
      omega (arith, c.requires.in_block.ends),
      omega (arith, c.loop-at.invariant.passed.within),
    )

pub returns-in_default : goal.returns-in_default
returns-in_default c =
    let at = c.loop-at in
    record {
      passed = at.invariant.passed;
      most = omega arith;
      found = record {
        ended = λ h. end_here c.args.block.now.letters.now c.args.reached.at (at.at + c.args.measures.last) (omega arith)
            at.invariant.passed.within c.in_default.ensures;
        read = at.invariant.read;
      };
    }

pub next_code-code-requires : goal.next_code-code-requires
next_code-code-requires c = (
  c.args.measures.short,
  (c.loop-at.invariant.read c.args.reached.at c.requires.scanned).in_hand.code_below,
  c.in-Some.ensures.1,
)

pub slot-requires : goal.slot-requires
slot-requires c =
    let there = run_end_within c.args.block.now.letters.now c.args.reached.at c.requires.in_letters in (
      omega (arith, c.requires.in_block.begins),
      omega (arith, c.requires.in_block.ends),
      omega (arith, c.loop-at.invariant.passed.within, c.args.block.now.few),
    )

pub bounds-ranks-slot : goal.bounds-ranks-slot
bounds-ranks-slot c =
    omega (arith, c.slot.ensures, (c.loop-at.invariant.read c.args.reached.at c.requires.scanned).sized, c.requires.in_block.ends)

pub returns-then-found-low : goal.returns-then-found-low
returns-then-found-low c =
    let block = c.args.block.now in
    let letters = block.letters.now in
    let from = c.args.reached.at in
    let last = c.args.measures.last in
    let at = c.loop-at in
    let digit = c.in-Some.ensures in
    let code = c.next_code-code.result in
    let r = c.rank-found.result in
    let more = run_goes_on letters from (at.at + last) (omega arith) at.invariant.passed.within c.in-Some.digit digit.0 digit.1 in
    let in_hand = (at.invariant.read from c.requires.scanned).in_hand in
    let kmer = pushed letters from c.requires.in_letters last at.at (omega arith) more c.args.measures.short at.code c.in-Some.digit code
    in_hand digit.0 c.next_code-code.ensures in
    let ranked = rank_there last at.at code r letters c.rank-found.ensures kmer.0 in
    record {
      passed = at.invariant.passed;
      most = omega arith;
      found = record {
        before = omega arith;
        within = more;
        low_enough = c.if-found-low.true;
        rank_there = ranked;
        code_there = kmer.0;
        read = λ first is. rw (c.slot.ensures.0, c.requires.begins)
            (scanned_next last block.base letters at.ranks first at.at at.code r code (at.invariant.read first is)
            (omega (arith, c.requires.in_block.begins)) (omega (arith, c.requires.in_block.ends)) ranked kmer.1 kmer.2);
      };
    }

pub loop-at-preserved : goal.loop-at-preserved
loop-at-preserved c =
    let block = c.args.block.now in
    let letters = block.letters.now in
    let from = c.args.reached.at in
    let last = c.args.measures.last in
    let low = c.args.low in
    let at = c.loop-at in
    let digit = c.in-Some.ensures in
    let code = c.next_code-code.result in
    let r = c.rank-found.result in
    let more = run_goes_on letters from (at.at + last) (omega arith) at.invariant.passed.within c.in-Some.digit digit.0 digit.1 in
    let in_hand = (at.invariant.read from c.requires.scanned).in_hand in
    let kmer = pushed letters from c.requires.in_letters last at.at (omega arith) more c.args.measures.short at.code c.in-Some.digit code
    in_hand digit.0 c.next_code-code.ensures in
    let ranked = rank_there last at.at code r letters c.rank-found.ensures kmer.0 in
    let above : low < rank_at (suc last) letters at.at = subst (λ (x : ℕ). low < x) ranked c.if-found-low.false in
    record {
      passed = record {
        start = omega arith;
        within = omega (arith, more);
        above = λ q a b.
            below_more (λ (x : ℕ). from ≤ x → low < rank_at (suc last) letters x) at.at (λ x l m. at.invariant.passed.above x m l) (λ m. above) q b a;
      };
      read = λ first is. rw (c.slot.ensures.0, c.requires.begins)
          (scanned_next last block.base letters at.ranks first at.at at.code r code (at.invariant.read first is)
          (omega (arith, c.requires.in_block.begins)) (omega (arith, c.requires.in_block.ends)) ranked kmer.1 kmer.2);
    }

pub returns : goal.returns
returns c =
    let at = c.loop-at in
    let end : at.at ≡ c.args.stop = omega arith in
    record {
      passed = rw end at at.invariant.passed;
      most = le_refl c.args.stop;
      found = record { ended = λ h. absurd (omega arith); read = λ first is. rw end at (at.invariant.read first is) };
    }
