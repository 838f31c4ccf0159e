-- Whatever the work words are, a walk keeps their number, and those beyond the first 16,384.
use Prim.Native.Nat.{ℕ, zero, suc, ◌+◌, ◌-◌, ◌≤◌, ◌<◌, min}
use native.Mathlib.Omega.{arith}
use mathlib.Core.Path.{◌≡◌, refl, sym, ap, ◌∙◌}
use mathlib.Core.Logic.{inr}
use mathlib.Core.Bool.{Bool, true, false, cond}
use mathlib.Core.List.{List}
use lib.Dec.{ltb, eqb}
use lib.ListN.{length, get_or, drop, set, length-drop, length-set}
use lib.Seq.{ext_get_or, get_or-drop, drop-set-lt}
use Rattle.base.specs.Limits.{work_words}
use Rattle.session_words.specs.FirstWords.{passed_at}
use Rattle.session_words.specs.Layout.{columns_at, row_at, m_at, highest_at, back_from, index_from, starts_from, part_length}
use Rattle.session_cells.specs.Passing.{Update, none_passed, pass_rows, rest_end, skips, skipped, pass_rest, pass_blocks}
use Rattle.session_cells.specs.Leaving.{left_starts}
use Rattle.session_cells.specs.declared.cells.Line.{Line}
use Rattle.session_cells.specs.declared.cells.Passed.{Passed}
use Rattle.session_cells.proofs.Passing.{bounded}
use Rattle.session_cells.proofs.Leaving.{length_left}
use Rattle.mapper.specs.Walking.{Place}
use Rattle.mapper.specs.declared.terms.Terms.{Terms}
use Rattle.mapper.specs.Walking.{place_of, place_in, saved, middle, with_middle, starts_length, left_words, settled_words, settled, line_of, part_of, with_part}
use Rattle.mapper.specs.Walking.{column_update, cell_update, Walk, spent_walk, finished_walk, found_walk, walk_on, one_walk}
use Rattle.mapper.proofs.Middles.{middle_number, same_number, outer_word}

-- the same number of words, and the same beyond
pub record Kept (work after : List ℕ) : Type 0 where
  pub number : length after ≡ length work
  pub beyond : drop work_words after ≡ drop work_words work

kept_trans : {a b c : List ℕ} → Kept a b → Kept b c → Kept a c
kept_trans p q = record { number = q.number ∙ p.number; beyond = q.beyond ∙ p.beyond }

kept_refl : (work : List ℕ) → Kept work work
kept_refl work = record { number = refl; beyond = refl }

-- of two lists or walks one is chosen by a test
kept_cond : (work : List ℕ) (b : Bool) (one other : List ℕ) → Kept work one → Kept work other → Kept work (cond b one other)
kept_cond work true one other p q = p
kept_cond work false one other p q = q

kept_choice : (work : List ℕ) (b : Bool) (one other : Walk) → Kept work one.words → Kept work other.words → Kept work (cond b one other).words
kept_choice work true one other p q = p
kept_choice work false one other p q = q

kept_set : (work : List ℕ) (i v : ℕ) → i < work_words → Kept work (set work i v)
kept_set work i v l = record { number = length-set work i v; beyond = drop-set-lt work_words work i v l }

kept_saved : (work : List ℕ) (place : Place) (cells : ℕ) → Kept work (saved work place cells)
unfolding saved
kept_saved work place cells =
    kept_trans (kept_set work passed_at _ (omega arith))
    (kept_trans (kept_set _ columns_at _ (omega arith))
    (kept_trans (kept_set _ row_at _ (omega arith)) (kept_trans (kept_set _ m_at _ (omega arith)) (kept_set _ highest_at _ (omega arith)))))

kept_middle : (from n : ℕ) (work words : List ℕ) → from + n ≤ work_words → work_words ≤ length work → length words ≡ n
    → Kept work (with_middle from n work words)
kept_middle from n work words inside l e =
    let fits : from + n ≤ length work = omega arith in
    let same = same_number from n work words fits e in
    record {
      number = same;
      beyond =
          ext_get_or 0 (drop work_words (with_middle from n work words)) (drop work_words work)
          (length-drop work_words (with_middle from n work words) ∙ ap (λ (k : ℕ). k - work_words) same ∙ sym (length-drop work_words work))
          (λ i k. get_or-drop work_words (with_middle from n work words) i 0 ∙ outer_word from n work words fits e (work_words + i) (inr (omega arith))
          ∙ sym (get_or-drop work_words work i 0));
    }

-- a column's update keeps the number of the part's words, whatever the rows
rest_size : (line : Line) (to i m highest : ℕ) (part : List ℕ) → length (pass_rest line to i m highest part).part ≡ length part
unfolding pass_rest
rest_size line to i m highest part = go (skips line to i m highest part)
  where
    n : ℕ
    n = min (rest_end line i) to - i

    go : (b : Bool)
        → length (cond b (record { answer = skipped line i highest part; part = part }) (pass_rows line n i m highest part)).part ≡ length part
    go true = refl
    go false = (bounded line n i m highest part).size

blocks_size : (line : Line) (n to i m highest : ℕ) (part : List ℕ) → length (pass_blocks line n to i m highest part).part ≡ length part
blocks_size line zero to i m highest part = refl
blocks_size line (suc n) to i m highest part =
    let rest = pass_rest line to i m highest part in
    let later = pass_blocks line n to rest.answer.row rest.answer.m rest.answer.highest rest.part in
    go (ltb i to) rest.answer.found rest later (rest_size line to i m highest part)
    (blocks_size line n to rest.answer.row rest.answer.m rest.answer.highest rest.part)
  where
    go : (b c : Bool) (rest later : Update) → length rest.part ≡ length part → length later.part ≡ length rest.part
        → length (cond b (cond c rest later) (record { answer = none_passed i m highest; part = part })).part ≡ length part
    go true true rest later e f = e
    go true false rest later e f = f ∙ e
    go false c rest later e f = refl

update_size : (terms : Terms) (j row m highest left : ℕ) (work : List ℕ) → work_words ≤ length work
    → length (column_update terms j row m highest left work).part ≡ part_length
unfolding column_update line_of
update_size terms j row m highest left work l =
    let n = min left (suc j - row) in
    blocks_size (line_of work terms j) n (row + n) row m highest (part_of work)
    ∙ middle_number index_from part_length work work (omega arith)

cell_size : (terms : Terms) (j row m highest : ℕ) (work : List ℕ) → work_words ≤ length work
    → length (cell_update terms j row m highest work).part ≡ part_length
unfolding cell_update
cell_size terms j row m highest work l =
    (bounded (line_of work terms j) 1 row m highest (part_of work)).size ∙ middle_number index_from part_length work work (omega arith)

kept_settled : (work : List ℕ) (columns : ℕ) (p : Passed) → work_words ≤ length work → Kept work (settled_words work columns p)
unfolding settled_words left_words
kept_settled work columns p l =
    kept_cond work (ltb p.row columns) work (left_words work columns) (kept_refl work)
    (kept_middle starts_from starts_length work
    (left_starts (get_or work (back_from + columns - 1) 0) (columns - 1) 0 (middle starts_from starts_length work)) (omega arith) l
    (length_left (get_or work (back_from + columns - 1) 0) (columns - 1) 0 (middle starts_from starts_length work)
    ∙ middle_number starts_from starts_length work work (omega arith)))

pub kept_walk : (terms : Terms) (budget columns row m highest left : ℕ) (work : List ℕ) → work_words ≤ length work
    → Kept work (walk_on terms budget columns row m highest left work).words
unfolding spent_walk finished_walk found_walk
kept_walk terms budget zero row m highest left work l = kept_saved work (place_of 0 row m highest) (budget - left)
kept_walk terms budget (suc j) row m highest left work l =
    let update = column_update terms j row m highest left work in
    let passed = with_part work update.part in
    let back = kept_middle index_from part_length work update.part (omega arith) l (update_size terms j row m highest left work l) in
    let words = settled_words passed (suc j) update.answer in
    let place = settled passed (suc j) update.answer in
    let rest = left - (update.answer.row - row) in
    let settles : Kept work words = kept_trans back (kept_settled passed (suc j) update.answer (rw back.number l)) in
    kept_choice work (eqb left 0) _ _ (kept_saved work (place_of (suc j) row m highest) budget)
    (kept_choice work update.answer.found _ _
    (kept_trans settles (kept_saved words place (budget - rest)))
    (kept_choice work (ltb update.answer.row (suc j)) _ _
    (kept_trans settles (kept_saved words place (budget - rest)))
    (kept_trans settles (kept_walk terms budget j place.row place.m place.highest rest words (rw settles.number l)))))

pub kept_one : (terms : Terms) (columns row m highest : ℕ) (work : List ℕ) → work_words ≤ length work
    → Kept work (one_walk terms columns row m highest work).words
unfolding one_walk spent_walk found_walk
kept_one terms columns row m highest work l =
    let update = cell_update terms (columns - 1) row m highest work in
    let words = with_part work update.part in
    let back = kept_middle index_from part_length work update.part (omega arith) l (cell_size terms (columns - 1) row m highest work l) in
    let place = place_in columns update.answer in
    kept_choice work update.answer.found _ _ (kept_trans back (kept_saved words place 1)) (kept_trans back (kept_saved words place 1))
