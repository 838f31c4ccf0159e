-- What a step does to any work words from a place on, made by start and steps or not: column after column.
use Rattle.std.specs.Prelude.{ℕ, zero, suc, ◌+◌, ◌-◌, ◌*◌, ◌%◌, min, cond, List, ◌++◌, ltb, eqb, get_or, take, drop, set}
use Rattle.base.specs.Limits.{word_limit}
use Rattle.mappings.specs.declared.Scoring.{Scoring}
use Rattle.mappings.specs.declared.Scoring.TheVariants.{Linear, Jaccard}
use Rattle.mappings.specs.Unbiased.{unbiased}
use Rattle.session_words.specs.FirstWords.{u_at, v_at, passed_at, kind_at}
use Rattle.session_words.specs.Layout.{size_at, threshold_at, columns_at, row_at, m_at, highest_at, back_from, index_from, starts_from, part_end, part_length}
use Rattle.session_start.specs.ScoreWords.{by_fractions}
use Rattle.session_cells.specs.Passing.{Update, pass_rows, pass_blocks}
use Rattle.session_cells.specs.Leaving.{left_starts}
use Rattle.session_cells.specs.declared.cells.Line.{Line}
use Rattle.session_cells.specs.declared.cells.Passed.{Passed}
use Rattle.session_rule.specs.Lines.{gain_of, loss_of, lift_of}
use Rattle.mapper.specs.declared.terms.Terms.{Terms}
use Rattle.mapper.specs.declared.answer.Stepped.{Stepped}
use Rattle.mapper.specs.declared.answer.Stepped.TheVariants.{Finished, Spent}
use Rattle.mapper.specs.Deciding.{decided}

-- ---- the place

-- the columns left, the row and m of the next cell, and the greatest of the threshold and of the records in the rows before it
pub record Place : Type 0 where
  pub columns : ℕ
  pub row : ℕ
  pub m : ℕ
  pub highest : ℕ

abbrev pub place_of : ℕ → ℕ → ℕ → ℕ → Place
place_of columns row m highest = record { columns = columns; row = row; m = m; highest = highest }

-- the place behind what was passed of a column, in that column
abbrev pub place_in : ℕ → Passed → Place
place_in columns p = place_of columns p.row p.m p.highest

-- the words with the place written, and the cells added to those passed since start
unfoldable pub saved : List ℕ → Place → ℕ → List ℕ
saved work place cells =
    set
    (set
    (set (set (set work passed_at ((get_or work passed_at 0 + cells) % word_limit)) columns_at place.columns) row_at place.row)
    m_at
    place.m)
    highest_at
    place.highest

-- n words from an index on, and the words with these put back
unfoldable pub middle : ℕ → ℕ → List ℕ → List ℕ
middle from n work = take n (drop from work)

unfoldable pub with_middle : ℕ → ℕ → List ℕ → List ℕ → List ℕ
with_middle from n work words = take from work ++ (words ++ drop n (drop from work))

-- how many words may be starts
abbrev pub starts_length : ℕ
starts_length = part_end - starts_from

-- the words once the last of these columns is left
unfoldable pub left_words : List ℕ → ℕ → List ℕ
left_words work columns =
    with_middle starts_from starts_length work
    (left_starts (get_or work (back_from + columns - 1) 0) (columns - 1) 0 (middle starts_from starts_length work))

-- the words and the place behind what was passed of the last of these columns: in that column, or at the top of the next, where it is passed
unfoldable pub settled_words : List ℕ → ℕ → Passed → List ℕ
settled_words work columns p = cond (ltb p.row columns) work (left_words work columns)

unfoldable pub settled : List ℕ → ℕ → Passed → Place
settled work columns p =
    cond (ltb p.row columns)
    (place_in columns p)
    (place_of (columns - 1) 0 (get_or (left_words work columns) starts_from 0) (get_or (left_words work columns) threshold_at 0))

-- ---- the update of a column

-- the scoring of the kind of score and its two numbers, and of the threshold's word, which a linear one has
abbrev pub scoring_in : ℕ → ℕ → ℕ → ℕ → Scoring
scoring_in kind first second threshold = cond (eqb kind 1) (Jaccard first second) (Linear first second (unbiased threshold))

-- what the scores of the session in these words share
unfoldable pub terms_in : List ℕ → Terms
terms_in work = record {
  scoring = scoring_in (get_or work kind_at 0) (get_or work u_at 0) (get_or work v_at 0) (get_or work threshold_at 0);
  size = get_or work size_at 0;
}

-- what the cells of column j share
unfoldable pub line_of : List ℕ → Terms → ℕ → Line
line_of work terms j = record {
  column = j;
  gain = gain_of terms.scoring;
  v = loss_of terms.scoring;
  base = (lift_of terms.scoring - loss_of terms.scoring * (get_or work (index_from + j) 0 + 1 + terms.size)) % word_limit;
  back = get_or work (back_from + j) 0;
  fractions = by_fractions terms.scoring;
}

-- the part of the work words that a column's update is lent, and the words with that part put back
abbrev pub part_of : List ℕ → List ℕ
part_of work = middle index_from part_length work

abbrev pub with_part : List ℕ → List ℕ → List ℕ
with_part work part = with_middle index_from part_length work part

-- the update of column j from a row on, with this much of the budget left
unfoldable pub column_update : Terms → ℕ → ℕ → ℕ → ℕ → ℕ → List ℕ → Update
column_update terms j row m highest left work =
    let n = min left (suc j - row) in
    pass_blocks (line_of work terms j) n (row + n) row m highest (part_of work)

-- the same of the cell of this row
unfoldable pub cell_update : Terms → ℕ → ℕ → ℕ → ℕ → List ℕ → Update
cell_update terms j row m highest work = pass_rows (line_of work terms j) 1 row m highest (part_of work)

-- ---- a step

-- a step's answer, and the words afterwards
pub record Walk : Type 0 where
  pub answer : Stepped
  pub words : List ℕ

unfoldable pub spent_walk : List ℕ → Place → ℕ → Walk
spent_walk work place cells = record { answer = Spent cells; words = saved work place cells }

unfoldable pub finished_walk : List ℕ → Place → ℕ → Walk
finished_walk work place cells = record { answer = Finished cells; words = saved work place cells }

-- behind a candidate of the last of these columns, at this place: its left end is reasonable, so its m is one more than that of the next row
unfoldable pub found_walk : Terms → List ℕ → ℕ → Passed → Place → ℕ → Walk
found_walk terms work columns p place cells = record {
  answer = decided terms (get_or work (index_from + p.row - 1) 0) (get_or work (index_from + columns - 1) 0) ((p.m + 1) % word_limit) cells;
  words = saved work place cells;
}

-- the walk from a row of the last of these columns on, with so much of the budget left: that column's update, and then the next column's
abbrev pub walk_on : Terms → ℕ → ℕ → ℕ → ℕ → ℕ → ℕ → List ℕ → Walk
walk_on terms budget zero row m highest left work = finished_walk work (place_of 0 row m highest) (budget - left)
walk_on terms budget (suc j) row m highest left work =
    let update = column_update terms j row m highest left work in
    let passed = with_part work update.part in
    let words = settled_words passed (suc j) update.answer in
    let place = settled passed (suc j) update.answer in
    let rest = left - (update.answer.row - row) in
    let later = walk_on terms budget j place.row place.m place.highest rest words in
    cond (eqb left 0)
    (spent_walk work (place_of (suc j) row m highest) budget)
    (cond update.answer.found
    (found_walk terms words (suc j) update.answer place (budget - rest))
    (cond (ltb update.answer.row (suc j))
    (spent_walk words place (budget - rest))
    later))

-- the walk of one cell, in a column that has a further row
unfoldable pub one_walk : Terms → ℕ → ℕ → ℕ → ℕ → List ℕ → Walk
one_walk terms columns row m highest work =
    let update = cell_update terms (columns - 1) row m highest work in
    let words = with_part work update.part in
    cond update.answer.found
    (found_walk terms words columns update.answer (place_in columns update.answer) 1)
    (spent_walk words (place_in columns update.answer) 1)
