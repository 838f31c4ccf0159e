-- `scan::run` meets its contract: a run is shorter than a k-mer, or its k-mers are passed, or its windows.
use Prim.Native.Nat.{ℕ, ◌+◌, ◌-◌, ◌^◌, ◌≤◌, ◌<◌}
use native.Mathlib.Nat.{le_of_lt, le_trans, lt_of_lt_of_le, mod-eq_of_lt, pow-le-pow_right}
use mathlib.Core.Path.{◌≡◌, sym, ap, ◌∙◌, subst}
use mathlib.Core.List.{List}
use lib.Dec.{lit<}
use lib.ListN.{length}
use Rattle.base.specs.Limits.{k_limit}
use Rattle.kmers.specs.Places.{code_at, run_end}
use Rattle.kmers.proofs.Codes.{code_at_below}
use Rattle.minimizers.proofs.Runs.{run_end_within, run_letters}
use Rattle.winnowing.specs.Scan.{InHand, Begun}
use Rattle.winnowing.proofs.Positions.{no_last, begun_all}
use Rattle.winnowing.proofs.Passing.{run_none, run_ones}
use Rattle.winnowing.proofs.scan.run.Goals as goal

-- where the letters in front of the first k-mer's last one are all of the run, the code in hand is theirs
in_hand : {letters : List ℕ} {from last at code : ℕ} → from ≤ length letters → last < k_limit → Begun letters from last at code → from + last ≤ at
    → InHand last letters from code
in_hand {letters} {from} {last} {at} {code} in_letters short is least =
    let all : at - from ≡ last = begun_all from last is.most least in
    let there : code ≡ code_at last letters from = is.code_there ∙ ap (λ (n : ℕ). code_at n letters from) all in
    let within : from + last ≤ run_end letters from = le_trans least is.within in
    let ends = (run_end_within letters from in_letters).1 in
    let whole : code < 4 ^ last = subst (λ (x : ℕ). x < 4 ^ last) (sym there)
    (code_at_below letters last from (le_trans within ends) (λ q a b. run_letters letters from q a (lt_of_lt_of_le b within))) in
    record {
      code_there = mod-eq_of_lt whole ∙ there;
      code_below = lt_of_lt_of_le whole (pow-le-pow_right (lit< tt) (le_of_lt short));
    }

pub returns-then-begun-from-clause-passes : goal.returns-then-begun-from-clause-passes
returns-then-begun-from-clause-passes c =
    let letters = c.args.block.now.letters.now in
    let from = c.args.place.at in
    let last = c.args.measures.last in
    let begun = rw c.cover.ensures.same at c.first_letters-begun.ensures in
    let ended = begun.ended c.if-begun-from.true in
    record {
      begins = le_trans c.cover.ensures.covered.0 begun.start;
      ended = ended;
      counted = le_trans c.requires.begins.1 begun.start;
      put = run_none last c.args.measures.w c.args.measures.room letters c.args.measures.some from (run_end letters from - last)
          c.args.place.entries c.args.codes.now c.args.positions.now (no_last last ended c.if-begun-from.true);
    }

pub all_kmers-requires-clause-in_hand : goal.all_kmers-requires-clause-in_hand
all_kmers-requires-clause-in_hand c =
    in_hand (rw c.cover.ensures.same c.requires.in_letters) c.args.measures.short c.first_letters-begun.ensures c.if-begun-from.false

pub returns-then-measures-eq1-clause-passes : goal.returns-then-measures-eq1-clause-passes
returns-then-measures-eq1-clause-passes c =
    let letters = c.args.block.now.letters.now in
    let from = c.args.place.at in
    let last = c.args.measures.last in
    let passed = rw c.cover.ensures.same at c.all_kmers.ensures.passes in
    let same = run_ones last letters from (run_end letters from - last) in
    record {
      begins = passed.begins;
      ended = passed.ended;
      counted = passed.counted;
      put = rw c.if-measures-eq1.true (rw same at passed.put);
    }

pub run_windows-requires-clause-in_hand : goal.run_windows-requires-clause-in_hand
run_windows-requires-clause-in_hand c =
    in_hand (rw c.cover.ensures.same c.requires.in_letters) c.args.measures.short c.first_letters-begun.ensures c.if-begun-from.false
