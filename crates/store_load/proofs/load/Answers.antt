-- Each return is one case of `load_reply`.
use Rattle.std.proofs.Common.{◌≡◌, length, ◌≤◌, true, ◌||◌, arith, sym, ◌∙◌}
use Rattle.std.proofs.lemmas.Result.{err_from_is_err_and}
use lib.Dec.{ltb}
use borrow.Author.Tests.{lt-ltb}
use Rattle.base.proofs.Lists.{or_left, or_right}
use Rattle.store.specs.Load.{judge, entries_of}
use Rattle.store.proofs.Accepting.{Loads, load_accepts, load_fills}
use Rattle.store.proofs.Judging.{store_k_header, store_w_header}
use Rattle.store.proofs.RoundTrip.{length_loaded}
use Rattle.store_load.proofs.Counted.{counted_good, refused_judging, refused_short}
use Rattle.store_load.proofs.load.Goals as goal
use Rattle.store_load.proofs.load.Goals.{then-codes-entries-via-then-codes-entries, then-codes-entries-via-else-codes-entries+then-positions-entries}

pub returns-in_err-entries : goal.returns-in_err-entries
returns-in_err-entries c =
    let r = refused_judging c.args.words.now c.args.codes.now c.args.positions.now c.in_err-entries.field-0.0 c.in_err-entries.ensures in
    let passed_on = err_from_is_err_and c.from_residual.result c.from_residual.ensures.1 in
    record { result_value = rw (passed_on.1, passed_on.2) r.reply; codes_after = r.codes_same; positions_after = r.positions_same }

pub returns-then-codes-entries : goal.returns-then-codes-entries
returns-then-codes-entries c =
    let ws = c.args.words.now in
    let cs = c.args.codes.now in
    let ps = c.args.positions.now in
    let n = c.in_ok-entries.entries in
    let short =
    elim c.then-codes-entries.branch as (λ _. (ltb (length cs) n || ltb (length ps) n) ≡ true) [
      | then-codes-entries-via-then-codes-entries w ↦ or_left _ (lt-ltb _ _ w.if-codes-entries.true)
      | then-codes-entries-via-else-codes-entries+then-positions-entries w ↦ or_right (ltb (length cs) n) (lt-ltb _ _ w.if-positions-entries.true)
    ]
    in
    let r = refused_short ws cs ps c.in_ok-entries.ensures short in
    record { result_value = r.reply; codes_after = r.codes_same; positions_after = r.positions_same }

pub bounds-words-0 : goal.bounds-words-0
bounds-words-0 c =
    let ws = c.args.words.now in
    omega (arith, length_loaded ws (entries_of (judge ws)) (counted_good (judge ws) c.in_ok-entries.ensures).0)

pub bounds-words-0-2 : goal.bounds-words-0-2
bounds-words-0-2 c =
    let ws = c.args.words.now in
    omega (arith, length_loaded ws (entries_of (judge ws)) (counted_good (judge ws) c.in_ok-entries.ensures).0)

pub returns : goal.returns
returns c =
    let ws = c.args.words.now in
    let cs = c.args.codes.now in
    let ps = c.args.positions.now in
    let es = entries_of (judge ws) in
    let found = counted_good (judge ws) c.in_ok-entries.ensures in
    let some : 1 ≤ length ws = omega (arith, length_loaded ws es found.0) in
    let loaded : Loads ws es (length cs) (length ps) = record {
      judged = found.0;
      code_enough = rw found.1 c.if-codes-entries.false;
      position_enough = rw found.1 c.if-positions-entries.false;
    } in
    let fills = load_fills ws cs ps es loaded in
    record {
      result_value =
          sym
          (load_accepts ws (length cs) (length ps) es loaded
          ∙ rw (found.1, store_k_header ws some, store_w_header ws some, ← c.header_k.ensures, ← c.header_w.ensures));
      codes_after = c.read.ensures.codes_after ∙ sym fills.0;
      positions_after = c.read.ensures.positions_after ∙ sym fills.1;
    }
