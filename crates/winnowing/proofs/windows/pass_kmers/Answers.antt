-- `windows::pass_kmers` meets its contract: what is put and what is still to pick make up all there was to pick.
use Prim.Native.Nat.{ℕ, suc, ◌+◌, ◌-◌, ◌<◌}
use native.Mathlib.Nat.{le_refl}
use native.Mathlib.Numerals.{add-one}
use native.Mathlib.Omega.{arith}
use mathlib.Core.Path.{◌≡◌, refl, ◌∙◌}
use mathlib.Core.List.{List}
use Rattle.kmers.specs.Kmers.{Entry}
use Rattle.kmers.specs.Places.{code_at, rank_at, run_end}
use Rattle.minimizers.proofs.Picks.{lowest_one}
use Rattle.minimizers.proofs.Runs.{run_end_within}
use Rattle.winnowing.specs.Blocks.{block_size}
use Rattle.winnowing.specs.Scan.{IsPut, SameEnd, to_pick}
use Rattle.winnowing.proofs.Steps.{end_here, run_goes_on, pushed}
use Rattle.winnowing.proofs.Passing.{window_new}
use Rattle.winnowing.proofs.windows.pass_kmers.Goals as goal

-- a window of one k-mer picks it, and is done when it is put
put_one : (last room : ℕ) (letters : List ℕ) (from p : ℕ) → p + last < run_end letters from
    → (n code n' n₀ : ℕ) (cs ps cs' ps' cs₀ ps₀ : List ℕ) (all : List Entry) → code ≡ code_at (suc last) letters p
    → IsPut room n code p n' cs ps cs' ps' → SameEnd room n cs ps (to_pick last 1 letters from p p) n₀ cs₀ ps₀ all
    → SameEnd room n' cs' ps' (to_pick last 1 letters from (p + 1) (p + 1)) n₀ cs₀ ps₀ all
put_one last room letters from p more n code n' n₀ cs ps cs' ps' cs₀ ps₀ all there put before es =
    rw (add-one p)
    (window_new last 1 room (run_end letters from - last) letters (le_refl 1) p (suc p) p (add-one p) (omega arith)
    (lowest_one (rank_at (suc last) letters) p) p n code n' cs ps cs' ps' (le_refl p) there put es ∙ before es)

pub loop-at-init : goal.loop-at-init
loop-at-init c = record { standing = c.requires.standing; in_hand = c.requires.in_hand; put = λ es. refl }

pub digit_at-requires : goal.digit_at-requires
digit_at-requires c =
    let there = run_end_within c.args.block.now.letters.now c.args.reached.at c.requires.in_letters in (
      refl,
      omega (arith, c.requires.in_block.begins),
      omega arith,
      omega (arith, c.loop-at.invariant.standing.within),
    )

pub returns-in_default-clause-passes : goal.returns-in_default-clause-passes
returns-in_default-clause-passes c =
    let at = c.loop-at in
    record {
      most = omega arith;
      ended = λ h. end_here c.args.block.now.letters.now c.args.reached.at (at.at + c.args.measures.last) (omega arith)
          at.invariant.standing.within c.in_default.ensures;
    }

pub next_code-code-requires : goal.next_code-code-requires
next_code-code-requires c = (c.args.measures.short, c.loop-at.invariant.in_hand.code_below, c.in-Some.ensures.1)

pub put-entries-requires : goal.put-entries-requires
put-entries-requires c =
    let letters = c.args.block.now.letters.now in
    let from = c.args.reached.at in
    let at = c.loop-at in
    let digit = c.in-Some.ensures in
    let there = run_end_within letters from c.requires.in_letters in
    let more = run_goes_on letters from (at.at + c.args.measures.last) (omega arith) at.invariant.standing.within c.in-Some.digit digit.0 digit.1 in
    let small = c.args.block.now.few in
    (at.invariant.standing.has_room, omega (arith, at.invariant.standing.counted), omega arith)

pub loop-at-preserved : goal.loop-at-preserved
loop-at-preserved c =
    let letters = c.args.block.now.letters.now in
    let from = c.args.reached.at in
    let last = c.args.measures.last in
    let room = c.args.measures.room in
    let at = c.loop-at in
    let is = at.invariant in
    let digit = c.in-Some.ensures in
    let code = c.next_code-code in
    let put = c.put-entries in
    let more = run_goes_on letters from (at.at + last) (omega arith) is.standing.within c.in-Some.digit digit.0 digit.1 in
    let step = pushed letters from c.requires.in_letters last at.at (omega arith) more c.args.measures.short at.code c.in-Some.digit code.result
    is.in_hand digit.0 code.ensures in
    record {
      standing = record {
        start = omega arith;
        within = omega (arith, more);
        counted = omega (arith, is.standing.counted, put.ensures.counted);
        has_room = record {
          for_codes = rw put.auto.codes is.standing.has_room.for_codes;
          for_positions = rw put.auto.positions is.standing.has_room.for_positions;
        };
      };
      in_hand = step.2;
      put = put_one last room letters from at.at more at.entries code.result put.result c.args.reached.entries at.codes at.positions
          put.new.codes put.new.positions c.args.codes.now c.args.positions.now (to_pick last 1 letters from from from) step.0 put.ensures is.put;
    }

pub returns : goal.returns
returns c =
    let is = c.loop-at.invariant in
    let end : c.loop-at.at ≡ c.args.block.now.base + block_size - c.args.measures.last =
    omega (arith, c.requires.in_block.ends, c.args.measures.short) in
    record {
      passes = record { most = omega (arith, c.args.measures.short); ended = λ h. absurd (omega (arith, c.args.measures.short)) };
      standing = rw end at is.standing;
      in_hand = rw end at is.in_hand;
      put = λ es. rw end at (is.put es);
    }
