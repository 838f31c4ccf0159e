-- `scan::run_windows` meets its contract: a run has no k-mer, fewer than a window, or windows to pass.
use Prim.Native.Nat.{ℕ, suc, ◌+◌, ◌-◌, ◌≤◌}
use native.Mathlib.Nat.{le_refl, le-suc, le_trans, le_antisymm, le-add_right, lt_of_le_of_lt, lt_of_lt_of_le}
use mathlib.Core.Path.{◌≡◌, sym, ◌∙◌, subst}
use mathlib.Core.List.{List, []}
use Rattle.base.specs.Limits.{w_limit}
use Rattle.kmers.specs.Ranks.{unrank}
use Rattle.kmers.specs.Places.{code_at, rank_at, run_end}
use Rattle.minimizers.specs.Places.{IsLowest, picked_from}
use Rattle.minimizers.proofs.Runs.{run_end_within}
use Rattle.winnowing.specs.Blocks.{block_size, slot_of}
use Rattle.winnowing.specs.Scan.{to_pick, Filled, PutsLowest}
use Rattle.winnowing.proofs.Steps.{run_end_same, scanned_later}
use Rattle.winnowing.proofs.Positions.{further, in_letters, one_more, before_full, full_first, no_kmer, run_to, run_within, fewer, first_kmers, in_block}
use Rattle.winnowing.proofs.Passing.{slot_lowest, window_new, put_behind, run_none, run_short, run_long}
use Rattle.winnowing.proofs.scan.run_windows.Goals as goal

-- what is put is the lowest of the k-mers read
searched : {last base w room from at code to low_at low n n' : ℕ} {letters ranks cs ps cs' ps' : List ℕ}
    → base ≤ from → from + last + w ≤ base + block_size → w ≤ w_limit
    → Filled last base w letters ranks from at code → to ≡ slot_of last base at
    → PutsLowest room ranks (to - (at - from)) to at n low_at low n' cs ps cs' ps'
    → IsLowest (rank_at (suc last) letters) from at low_at × (low ≡ rank_at (suc last) letters low_at) × (unrank low ≡ code_at (suc last) letters low_at)
searched {last} {base} {w} {room} {from} {at} {code} {to} {low_at} {low} {n} {n'} {letters} {ranks} begins ends narrow filled same found =
    let kmers = first_kmers filled.start filled.most narrow in
    let held = in_block last w begins filled.start filled.most ends in
    let lowest = slot_lowest last base letters ranks from at code filled.scanned held.0 (at - from) low_at low kmers.1 kmers.2
    (rw same at found.near) (rw same at found.lowest) (rw same at found.rank_there) in
    (rw kmers.0 at lowest.0, lowest.1, lowest.2)

pub returns-then-p-from-clause-passes : goal.returns-then-p-from-clause-passes
returns-then-p-from-clause-passes c =
    let letters = c.args.block.now.letters.now in
    let from = c.args.begun.at in
    let last = c.args.measures.last in
    let at = c.first_window-full.result.at in
    let filled = c.first_window-full.ensures in
    let ended = filled.ended (before_full c.if-p-from.true c.args.measures.some) in
    record {
      begins = further last (le_trans c.requires.in_block.begins (le-add_right from last)) filled.start;
      ended = ended;
      counted = le_trans c.requires.standing.counted (le_trans filled.start (le-add_right at last));
      put = run_none last c.args.measures.w c.args.measures.room letters c.args.measures.some from (run_end letters from - last)
          c.args.begun.entries c.args.codes.now c.args.positions.now (no_kmer last c.if-p-from.true ended);
    }

pub slot-to-requires : goal.slot-to-requires
slot-to-requires c =
    let letters = c.args.block.now.letters.now in
    let last = c.args.measures.last in
    let filled = c.first_window-full.ensures in
    let there = run_end_within letters c.args.begun.at c.requires.in_letters in
    let held = in_block last c.args.measures.w c.requires.in_block.begins filled.start filled.most c.requires.in_block.ends in
    (held.0, held.1, le_trans filled.within (le_trans there.1 c.args.block.now.few))

pub put_lowest-entries-requires-clause-has_room : goal.put_lowest-entries-requires-clause-has_room
put_lowest-entries-requires-clause-has_room c =
    let there = run_end_within c.args.block.now.letters.now c.args.begun.at c.requires.in_letters in
    let few = in_letters c.args.measures.last c.first_window-full.ensures.within there.1 c.args.block.now.few in
    let standing = c.requires.standing in
    (standing.has_room, lt_of_le_of_lt standing.counted (lt_of_lt_of_le c.if-p-from.false few), few)

pub returns-then-p-from-2-clause-passes : goal.returns-then-p-from-2-clause-passes
returns-then-p-from-2-clause-passes c =
    let letters = c.args.block.now.letters.now in
    let from = c.args.begun.at in
    let last = c.args.measures.last in
    let at = c.first_window-full.result.at in
    let filled = c.first_window-full.ensures in
    let picked = c.put_lowest-entries in
    let put = picked.ensures.put in
    let ended = filled.ended c.if-p-from-2.true in
    let to : at ≡ run_end letters from - last = run_to at last ended in
    let lowest = searched c.requires.in_block.begins c.requires.in_block.ends c.args.measures.narrow filled c.slot-to.ensures.0 picked.ensures in
    record {
      begins = further last (le_trans c.requires.in_block.begins (le-add_right from last)) filled.start;
      ended = ended;
      counted = le_trans (one_more put.counted c.requires.standing.counted c.if-p-from.false) (le-add_right at last);
      put = run_short last c.args.measures.w c.args.measures.room letters c.args.measures.some from (run_end letters from - last)
          c.args.begun.entries c.args.codes.now c.args.positions.now picked.result.0.at (unrank picked.result.0.rank) picked.result.1
          picked.new.codes picked.new.positions (fewer last ended c.if-p-from-2.true)
          (subst (λ (x : ℕ). IsLowest (rank_at (suc last) letters) from x picked.result.0.at) to lowest.0) lowest.2 put;
    }

pub all_windows-requires-clause-in_letters : goal.all_windows-requires-clause-in_letters
all_windows-requires-clause-in_letters c =
    let there = run_end_within c.args.block.now.letters.now c.args.begun.at c.requires.in_letters in
    le_trans (le-add_right c.first_window-full.result.at c.args.measures.last) (le_trans c.first_window-full.ensures.within there.1)

pub all_windows-requires-clause-standing : goal.all_windows-requires-clause-standing
all_windows-requires-clause-standing c =
    let letters = c.args.block.now.letters.now in
    let at = c.first_window-full.result.at in
    let filled = c.first_window-full.ensures in
    let picked = c.put_lowest-entries in
    let standing = c.requires.standing in
    let same = run_end_same letters c.args.begun.at at filled.start (le_trans (le-add_right at c.args.measures.last) filled.within) in
    record {
      start = le_refl at;
      within = rw same filled.within;
      counted = one_more picked.ensures.put.counted standing.counted c.if-p-from.false;
      has_room = record {
        for_codes = rw picked.auto.codes standing.has_room.for_codes;
        for_positions = rw picked.auto.positions standing.has_room.for_positions;
      };
    }

pub all_windows-requires-clause-picking : goal.all_windows-requires-clause-picking
all_windows-requires-clause-picking c =
    let letters = c.args.block.now.letters.now in
    let from = c.args.begun.at in
    let last = c.args.measures.last in
    let full = c.first_window-full in
    let picked = c.put_lowest-entries in
    let lowest = searched c.requires.in_block.begins c.requires.in_block.ends c.args.measures.narrow full.ensures c.slot-to.ensures.0 picked.ensures in
    let first = full_first from c.args.measures.w (le_antisymm full.ensures.most c.if-p-from-2.false) in
    record {
      scanned = scanned_later last c.args.block.now.base letters full.new.ranks from (suc picked.result.0.at) full.result.at full.result.code
          full.ensures.scanned (le_trans lowest.0.first (le-suc picked.result.0.at));
      is_lowest = rw first.0 lowest.0;
      is_rank = lowest.1;
    }

pub returns-clause-passes : goal.returns-clause-passes
returns-clause-passes c =
    let letters = c.args.block.now.letters.now in
    let from = c.args.begun.at in
    let last = c.args.measures.last in
    let w = c.args.measures.w in
    let room = c.args.measures.room in
    let some = c.args.measures.some in
    let at = c.first_window-full.result.at in
    let filled = c.first_window-full.ensures in
    let picked = c.put_lowest-entries in
    let passed = c.all_windows in
    let all = passed.ensures.passes in
    let lowest = searched c.requires.in_block.begins c.requires.in_block.ends c.args.measures.narrow filled c.slot-to.ensures.0 picked.ensures in
    let full = le_antisymm filled.most c.if-p-from-2.false in
    let first = (full_first from w full).0 in
    let same = run_end_same letters from at filled.start (le_trans (le-add_right at last) filled.within) in
    let of_run = run_within at last filled.within in
    let new = window_new last w room (run_end letters from - last) letters some from at picked.result.0.at (sym full) of_run lowest.0 from
    c.args.begun.entries (unrank picked.result.0.rank) picked.result.1 c.args.codes.now c.args.positions.now picked.new.codes
    picked.new.positions lowest.0.first lowest.2 picked.ensures.put in
    let put_all = put_behind room picked.result.1 passed.result.entries c.args.begun.entries picked.new.codes picked.new.positions
    passed.new.codes passed.new.positions c.args.codes.now c.args.positions.now []
    (to_pick last w letters from (suc from) (suc picked.result.0.at)) (picked_from (suc last) w letters (run_end letters from - last) from from)
    (rw (same, first) at all.put) new in
    record {
      begins = all.begins;
      ended = all.ended ∙ same;
      counted = all.counted;
      put = run_long last w room letters some from (run_end letters from - last) c.args.begun.entries c.args.codes.now c.args.positions.now
          passed.result.entries passed.new.codes passed.new.positions (rw (sym full) of_run) put_all;
    }
