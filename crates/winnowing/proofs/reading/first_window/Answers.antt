-- `reading::first_window` meets its contract: the ranks of the k-mers read stand in their slots.
use Prim.Native.Nat.{◌+◌}
use native.Mathlib.Omega.{arith}
use mathlib.Core.Path.{refl}
use Rattle.minimizers.proofs.Runs.{run_end_within}
use Rattle.winnowing.proofs.Steps.{end_here, run_goes_on, pushed, rank_there, scanned_next}
use Rattle.winnowing.proofs.reading.first_window.Goals as goal

pub loop-at-init : goal.loop-at-init
loop-at-init c = record { within = c.requires.in_run; scanned = c.requires.scanned }

pub digit_at-requires : goal.digit_at-requires
digit_at-requires c =
    let there = run_end_within c.args.block.now.letters.now c.args.begun.at c.requires.in_letters in
    (refl, omega (arith, c.requires.in_block.begins), omega (arith, c.requires.in_block.ends), omega (arith, c.loop-at.invariant.within))

pub returns-in_default : goal.returns-in_default
returns-in_default c =
    let at = c.loop-at in
    record {
      start = omega arith;
      most = omega arith;
      within = at.invariant.within;
      ended = λ h. end_here c.args.block.now.letters.now c.args.begun.at (at.at + c.args.measures.last) (omega arith) at.invariant.within
          c.in_default.ensures;
      scanned = at.invariant.scanned;
    }

pub next_code-code-requires : goal.next_code-code-requires
next_code-code-requires c = (c.args.measures.short, c.loop-at.invariant.scanned.in_hand.code_below, c.in-Some.ensures.1)

pub slot-requires : goal.slot-requires
slot-requires c =
    let there = run_end_within c.args.block.now.letters.now c.args.begun.at c.requires.in_letters in (
      omega (arith, c.requires.in_block.begins),
      omega (arith, c.requires.in_block.ends),
      omega (arith, c.loop-at.invariant.within, c.args.block.now.few),
    )

pub bounds-ranks-slot : goal.bounds-ranks-slot
bounds-ranks-slot c = omega (arith, c.slot.ensures, c.loop-at.invariant.scanned.sized, c.requires.in_block.ends)

pub loop-at-preserved : goal.loop-at-preserved
loop-at-preserved c =
    let block = c.args.block.now in
    let letters = block.letters.now in
    let from = c.args.begun.at in
    let last = c.args.measures.last in
    let at = c.loop-at in
    let digit = c.in-Some.ensures in
    let code = c.next_code-code.result in
    let more = run_goes_on letters from (at.at + last) (omega arith) at.invariant.within c.in-Some.digit digit.0 digit.1 in
    let kmer = pushed letters from c.requires.in_letters last at.at (omega arith) more c.args.measures.short at.code c.in-Some.digit code
    at.invariant.scanned.in_hand digit.0 c.next_code-code.ensures in
    let scanned = scanned_next last block.base letters at.ranks from at.at at.code c.rank.result code at.invariant.scanned
    (omega (arith, c.requires.in_block.begins)) (omega (arith, c.requires.in_block.ends))
    (rank_there last at.at code c.rank.result letters c.rank.ensures kmer.0) kmer.1 kmer.2 in
    record { within = omega (arith, more); scanned = rw c.slot.ensures.0 scanned }
