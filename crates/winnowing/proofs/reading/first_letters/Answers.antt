-- `reading::first_letters` meets its contract: the code of the letters read, all of the run.
use Prim.Native.Nat.{ℕ, ◌-◌}
use native.Mathlib.Omega.{arith}
use mathlib.Core.Path.{◌≡◌, refl, sym, ap}
use Rattle.kmers.specs.Kmers.{code_of}
use Rattle.kmers.specs.Places.{code_at}
use Rattle.minimizers.proofs.Runs.{run_end_within}
use Rattle.winnowing.proofs.Steps.{end_here, run_goes_on, code_fits, code_longer}
use Rattle.winnowing.proofs.reading.first_letters.Goals as goal

pub loop-at-init : goal.loop-at-init
unfolding code_at code_of
loop-at-init c =
    let letters = c.args.block.now.letters.now in
    let from = c.args.from in
    let none : from - from ≡ 0 = omega arith in
    record { within = (run_end_within letters from c.requires.in_letters).0; code_there = sym (ap (λ (n : ℕ). code_at n letters from) none) }

pub digit_at-requires : goal.digit_at-requires
digit_at-requires c =
    let there = run_end_within c.args.block.now.letters.now c.args.from c.requires.in_letters in
    (refl, omega (arith, c.requires.in_block.begins), omega (arith, c.requires.in_block.ends), omega (arith, c.loop-at.invariant.within))

pub returns-in_default : goal.returns-in_default
returns-in_default c =
    let at = c.loop-at in
    record {
      start = omega arith;
      most = omega arith;
      within = at.invariant.within;
      ended = λ h. end_here c.args.block.now.letters.now c.args.from at.at (omega arith) at.invariant.within c.in_default.ensures;
      code_there = at.invariant.code_there;
    }

pub overflow_mul-code : goal.overflow_mul-code
overflow_mul-code c =
    let at = c.loop-at in
    let small = code_fits c.args.block.now.letters.now c.args.from c.requires.in_letters at.at at.code (omega arith) at.invariant.within
    (omega (arith, c.args.measures.short)) at.invariant.code_there in
    omega (arith, small)

pub overflow_add-code : goal.overflow_add-code
overflow_add-code c =
    let at = c.loop-at in
    let small = code_fits c.args.block.now.letters.now c.args.from c.requires.in_letters at.at at.code (omega arith) at.invariant.within
    (omega (arith, c.args.measures.short)) at.invariant.code_there in
    omega (arith, small, c.in-Some.ensures)

pub loop-at-preserved : goal.loop-at-preserved
loop-at-preserved c =
    let letters = c.args.block.now.letters.now in
    let from = c.args.from in
    let at = c.loop-at in
    let digit = c.in-Some.ensures in
    let on = run_goes_on letters from at.at (omega arith) at.invariant.within c.in-Some.digit digit.0 digit.1 in
    record {
      within = omega (arith, on);
      code_there = rw digit.0 (code_longer letters from c.requires.in_letters at.at at.code (omega arith) on at.invariant.code_there);
    }
