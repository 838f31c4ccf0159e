-- `windows::pass_windows` meets its contract: the window at hand has its lowest put, and what is put and what is still to pick make up what
-- there was to pick at first.
use Prim.Native.Nat.{ℕ, suc, ◌+◌, ◌-◌, ◌≤◌, ◌<◌}
use native.Mathlib.Nat.{le_refl, le-suc, le_trans, le-add_right, lt_of_lt_of_le, lt_of_le_of_lt}
use native.Mathlib.Omega.{arith}
use mathlib.Core.Path.{◌≡◌, refl, sym, ◌∙◌, subst₂}
use mathlib.Core.List.{List}
use lib.ListN.{length}
use Rattle.kmers.specs.Ranks.{unrank}
use Rattle.kmers.specs.Places.{rank_at, run_end}
use Rattle.minimizers.specs.Places.{IsLowest}
use Rattle.minimizers.proofs.Runs.{run_end_within}
use Rattle.winnowing.specs.Scan.{to_pick, Picking, Above}
use Rattle.winnowing.proofs.Loops.{WindowsPut}
use Rattle.winnowing.proofs.Steps.{run_end_same, scanned_later}
use Rattle.winnowing.proofs.Positions.{shorter, further, in_letters, below_letters, next_in, next_within}
use Rattle.winnowing.proofs.Positions.{next_start, next_counted, stop_at, before_stop, stays_to, behind, left_at, behind_left, window_of}
use Rattle.winnowing.proofs.Positions.{one_more, first_behind}
use Rattle.winnowing.proofs.Passing.{slot_lowest, window_new, kept, put_new}
use Rattle.winnowing.proofs.windows.pass_windows.Goals as goal

-- ---- a place of the run, over plain variables

-- the position of a turn is in the block and in the run, and behind a window
record Inside (letters : List ℕ) (last base w from p low_at : ℕ) : Type 0 where
  begins : base ≤ p + last
  within : p + last ≤ run_end letters from
  ends : run_end letters from ≤ length letters
  wide : w ≤ p
  stays : p ≤ low_at + w
  behind_low : low_at < p
  same_run : run_end letters p ≡ run_end letters from

inside : {letters cs₀ ps₀ ranks cs ps : List ℕ} {last base w room from low_at₀ n₀ p code low_at low n : ℕ}
    → from ≤ length letters → base ≤ from + last → w ≤ from
    → WindowsPut last base w room letters from low_at₀ n₀ cs₀ ps₀ ranks p code low_at low n cs ps → Inside letters last base w from p low_at
inside {letters = letters} {last = last} {from = from} {p = p} in_letters begins full put = record {
  begins = further last begins put.standing.start;
  within = put.standing.within;
  ends = (run_end_within letters from in_letters).1;
  wide = le_trans full put.standing.start;
  stays = omega (arith, put.picking.is_lowest.first);
  behind_low = put.picking.is_lowest.last;
  same_run = run_end_same letters from p put.standing.start (le_trans (le-add_right p last) put.standing.within);
}

-- windows that end before the lowest leaves keep it
kept_to : {letters ranks : List ℕ} {last base w from p code low_at low at : ℕ} → Inside letters last base w from p low_at → 1 ≤ w
    → Picking last base w letters ranks p code low_at low → Above last letters low p at
    → (x : ℕ) → p ≤ x → x ≤ at → x ≤ low_at + w
    → IsLowest (rank_at (suc last) letters) (x - w) x low_at
    × (to_pick last w letters from (suc (p - w)) (suc low_at) ≡ to_pick last w letters from (suc (x - w)) (suc low_at))
kept_to {letters} {ranks} {last} {base} {w} {from} {p} {code} {low_at} {low} place some picking passed x start to stays =
    kept last w 0 letters from some low_at low picking.is_rank p x place.wide picking.is_lowest start stays
    (shorter last to (rw place.same_run at passed.within)) (λ q a b. passed.above q a (lt_of_lt_of_le b to))

-- ---- reading on

pub read_above-found-requires-clause-in_letters : goal.read_above-found-requires-clause-in_letters
read_above-found-requires-clause-in_letters c =
    let place = inside c.requires.in_letters c.requires.in_block.begins c.requires.full c.loop-rank.invariant.2 in
    le_trans (le-add_right c.loop-rank.p c.args.measures.last) (le_trans place.within place.ends)

pub read_above-found-requires-clause-in_run : goal.read_above-found-requires-clause-in_run
read_above-found-requires-clause-in_run c =
    let place = inside c.requires.in_letters c.requires.in_block.begins c.requires.full c.loop-rank.invariant.2 in
    (omega (arith, place.stays, c.loop-rank.invariant.0, c.loop-rank.invariant.1, c.min.ensures), rw place.same_run place.within)

-- ---- a new rank that is not above the lowest

pub put-n-requires : goal.put-n-requires
put-n-requires c =
    let is = c.loop-rank.invariant.2 in
    let place = inside c.requires.in_letters c.requires.in_block.begins c.requires.full is in
    let read = c.read_above-found.ensures in
    let found = rw c.in-Some.is at read.found in
    let small = below_letters c.args.measures.last (rw place.same_run at found.within) place.ends c.args.block.now.few in
    (is.standing.has_room, lt_of_le_of_lt (le_trans is.standing.counted read.passed.start) small, small)

pub loop-rank-preserved-in-Some : goal.loop-rank-preserved-in-Some
loop-rank-preserved-in-Some c =
    let letters = c.args.block.now.letters.now in
    let base = c.args.block.now.base in
    let from = c.args.reached.at in
    let last = c.args.measures.last in
    let w = c.args.measures.w in
    let some = c.args.measures.some in
    let turn = c.loop-rank in
    let is = turn.invariant.2 in
    let place = inside c.requires.in_letters c.requires.in_block.begins c.requires.full is in
    let stop = stop_at base last place.stays turn.invariant.0 (rw turn.invariant.1 at c.min.ensures) in
    let at = c.read_above-found.result.0.at in
    let code = c.read_above-found.result.0.code in
    let read = c.read_above-found.ensures in
    let found = rw c.in-Some.is at read.found in
    let put = c.put-n in
    let more : at + last < run_end letters from = rw place.same_run at found.within in
    let same = kept_to place some is.picking read.passed at read.passed.start (le_refl at) (stays_to found.before stop.1) in
    let below : rank_at (suc last) letters at ≤ rank_at (suc last) letters turn.low_at =
    subst₂ (λ (x y : ℕ). x ≤ y) found.rank_there is.picking.is_rank found.low_enough in
    let new = put_new last w c.args.measures.room letters from some turn.low_at turn.p at turn.n put.result code turn.codes turn.positions
    put.new.codes put.new.positions (le_trans place.wide read.passed.start) same.1 same.0 more below found.code_there put.ensures in (
      next_in last found.before stop.2,
      omega arith,
      record {
        standing = record {
          start = next_start is.standing.start read.passed.start;
          within = next_within at last more;
          counted = next_counted put.ensures.counted is.standing.counted read.passed.start;
          has_room = record {
            for_codes = rw put.auto.codes is.standing.has_room.for_codes;
            for_positions = rw put.auto.positions is.standing.has_room.for_positions;
          };
        };
        picking = record {
          scanned = scanned_later last base letters c.read_above-found.new.ranks (suc turn.low_at) (suc at) (at + 1) code
              (found.read (suc turn.low_at) is.picking.scanned) (le_trans place.behind_low (le_trans read.passed.start (le-suc at)));
          is_lowest = new.0;
          is_rank = found.rank_there;
        };
        put = λ es. new.1 es ∙ is.put es;
      },
    )

-- ---- the block ends, or the run

pub returns-then-p-leaves : goal.returns-then-p-leaves
returns-then-p-leaves c =
    let last = c.args.measures.last in
    let turn = c.loop-rank in
    let is = turn.invariant.2 in
    let place = inside c.requires.in_letters c.requires.in_block.begins c.requires.full is in
    let stop = stop_at c.args.block.now.base last place.stays turn.invariant.0 (rw turn.invariant.1 at c.min.ensures) in
    let at = c.read_above-found.result.0.at in
    let read = c.read_above-found.ensures in
    let none = rw c.in_default.is at read.found in
    let leaves = turn.low_at + c.args.measures.w + 1 in
    let same = kept_to place c.args.measures.some is.picking read.passed at read.passed.start (le_refl at)
    (stays_to (rw turn.invariant.1 at c.if-p-leaves.true) (le_refl leaves)) in
    record {
      passes = record {
        most = shorter last read.most stop.2;
        ended = λ h. rw place.same_run at (none.ended (before_stop last stop.1 stop.3 (rw turn.invariant.1 at c.if-p-leaves.true) h));
      };
      standing = record {
        start = le_trans is.standing.start read.passed.start;
        within = rw place.same_run at read.passed.within;
        counted = le_trans is.standing.counted read.passed.start;
        has_room = is.standing.has_room;
      };
      picking = record { scanned = none.read (suc turn.low_at) is.picking.scanned; is_lowest = same.0; is_rank = is.picking.is_rank };
      put = λ es. rw (sym same.1) (is.put es);
    }

-- ---- the lowest has left

pub slot-to-requires : goal.slot-to-requires
slot-to-requires c =
    let last = c.args.measures.last in
    let place = inside c.requires.in_letters c.requires.in_block.begins c.requires.full c.loop-rank.invariant.2 in
    let stop = stop_at c.args.block.now.base last place.stays c.loop-rank.invariant.0 (rw c.loop-rank.invariant.1 at c.min.ensures) in
    let read = c.read_above-found.ensures in (
      further last place.begins read.passed.start,
      shorter last read.most stop.2,
      le_trans (rw place.same_run at read.passed.within) (le_trans place.ends c.args.block.now.few),
    )

pub put_lowest-entries-requires-clause-has_room : goal.put_lowest-entries-requires-clause-has_room
put_lowest-entries-requires-clause-has_room c =
    let last = c.args.measures.last in
    let is = c.loop-rank.invariant.2 in
    let place = inside c.requires.in_letters c.requires.in_block.begins c.requires.full is in
    let stop = stop_at c.args.block.now.base last place.stays c.loop-rank.invariant.0 (rw c.loop-rank.invariant.1 at c.min.ensures) in
    let read = c.read_above-found.ensures in
    let few = in_letters last (rw place.same_run at read.passed.within) place.ends c.args.block.now.few in
    let passed = behind_left place.stays (left_at (rw c.loop-rank.invariant.1 at c.if-p-leaves.false) read.most stop.1) in
    (is.standing.has_room, lt_of_le_of_lt is.standing.counted (lt_of_lt_of_le passed few), few)

pub loop-rank-preserved : goal.loop-rank-preserved
loop-rank-preserved c =
    let letters = c.args.block.now.letters.now in
    let base = c.args.block.now.base in
    let from = c.args.reached.at in
    let last = c.args.measures.last in
    let w = c.args.measures.w in
    let some = c.args.measures.some in
    let turn = c.loop-rank in
    let is = turn.invariant.2 in
    let place = inside c.requires.in_letters c.requires.in_block.begins c.requires.full is in
    let stop = stop_at base last place.stays turn.invariant.0 (rw turn.invariant.1 at c.min.ensures) in
    let at = c.read_above-found.result.0.at in
    let code = c.read_above-found.result.0.code in
    let ranks = c.read_above-found.new.ranks in
    let read = c.read_above-found.ensures in
    let none = rw c.in_default.is at read.found in
    let within = rw place.same_run at read.passed.within in
    let left = left_at (rw c.loop-rank.invariant.1 at c.if-p-leaves.false) read.most stop.1 in
    let gone = behind turn.low_at w left in
    let scanned = none.read (suc turn.low_at) is.picking.scanned in
    let picked = c.put_lowest-entries in
    let result = picked.result in
    let put = picked.ensures.put in
    let slot = c.slot-to.ensures.0 in
    let lowest = slot_lowest last base letters ranks (suc turn.low_at) at code scanned (further last place.begins read.passed.start) w result.0.at
    result.0.rank c.args.measures.narrow gone.3 (rw slot at picked.ensures.near) (rw slot at picked.ensures.lowest)
    (rw slot at picked.ensures.rank_there) in
    let window = window_of w last (le_trans place.wide read.passed.start) within in
    let new = window_new last w c.args.measures.room (run_end letters from - last) letters some (at - w) at result.0.at window.0 window.1 lowest.0
    (at - w) turn.n (unrank result.0.rank) result.1 turn.codes turn.positions picked.new.codes picked.new.positions lowest.0.first lowest.2 put in
    let low_to = turn.low_at + w in
    let left_to_pick : to_pick last w letters from (suc (turn.p - w)) (suc turn.low_at) ≡ to_pick last w letters from (at - w) (at - w) =
    (kept_to place some is.picking read.passed low_to place.stays gone.2 (le_refl low_to)).1 ∙ rw (gone.0, gone.1) in (
      shorter last read.most stop.2,
      refl,
      record {
        standing = record {
          start = le_trans is.standing.start read.passed.start;
          within = within;
          counted = one_more put.counted is.standing.counted (behind_left place.stays left);
          has_room = record {
            for_codes = rw picked.auto.codes is.standing.has_room.for_codes;
            for_positions = rw picked.auto.positions is.standing.has_room.for_positions;
          };
        };
        picking = record {
          scanned = scanned_later last base letters ranks (suc turn.low_at) (suc result.0.at) at code scanned (first_behind gone.1 lowest.0.first);
          is_lowest = lowest.0;
          is_rank = lowest.1;
        };
        put = λ es. new es ∙ rw (sym left_to_pick) (is.put es);
      },
    )
