-- What each work word holds after q cells, given the words before start: docs/WORK_WORDS.md has the same as a table.
use Rattle.std.specs.Prelude.{ℕ, zero, suc, ◌+◌, ◌-◌, Bool, cond, ◌&&◌, List, [], ◌∷◌, map, leb, ltb, length, get_or, take, replicate}
use Rattle.base.specs.Lists.{range}
use Rattle.mappings.specs.Score.{Task, shared_of}
use Rattle.mappings.specs.Cells.{Cell, hits, hit_count, cells_of, left_end, right_end}
use Rattle.mappings.specs.HitCodes.{hit_codes}
use Rattle.session_words.specs.Layout.{back_from, index_from, reach_from, best_from, block_count, tops_from, starts_from}
use Rattle.session_records.specs.Records.{highest_before, with_record, block_top}
use Rattle.session_records.specs.Words.{at_most}
use Rattle.session_start.specs.ScoreWords.{by_fractions, threshold_word, score_word_of}
use Rattle.session_start.specs.Numbers.{first_number, second_number, kind_number}
use Rattle.session_start.specs.Tables.{reach, back, start_of}

-- the place after q cells of h columns: how many columns are left, the next cell's column being the last of them; and its row
abbrev pub columns_left : ℕ → ℕ → ℕ
columns_left zero q = 0
columns_left (suc j) q = cond (ltb q (suc j)) (suc j) (columns_left j (q - suc j))

abbrev pub next_row : ℕ → ℕ → ℕ
next_row zero q = 0
next_row (suc j) q = cond (ltb q (suc j)) q (next_row j (q - suc j))

-- m of the next cell, and 0 where none is left
abbrev pub next_shared : Task → ℕ → ℕ → ℕ
next_shared task zero row = 0
next_shared task (suc j) row = shared_of task (get_or (hits task) row 0) (get_or (hits task) j 0)

-- the order of the score words of a task
abbrev pub order_of : Task → ℕ → ℕ → Bool
order_of task = at_most (by_fractions task.scoring)

-- the column in hand after one more cell: a record in its row, where its score word is greater than the threshold's and than all records in
-- the rows up to its own
unfoldable pub with_cell : Task → List ℕ → Cell → List ℕ
with_cell task best cell =
    with_record (order_of task) (threshold_word task.scoring) best cell.row (score_word_of task (left_end task cell) (right_end task cell))

abbrev pub with_cells : Task → List ℕ → List Cell → List ℕ
with_cells task best [] = best
with_cells task best (cell ∷ cells) = with_cells task (with_cell task best cell) cells

-- the column in hand after q cells: all zero at first
unfoldable pub best_after : Task → ℕ → List ℕ
best_after task q = with_cells task (replicate (hit_count task) 0) (take q (cells_of task))

-- the greatest of the threshold and of the records in the rows before the next cell's
unfoldable pub highest_after : Task → ℕ → ℕ
highest_after task q = highest_before (order_of task) (threshold_word task.scoring) (best_after task q) (next_row (hit_count task) q)

-- words 0 to 10: h, u and v or f and g, the cells passed since start, the kind of score, |p|, the threshold as a score word, the columns
-- left, row and m of the next cell, and the greatest of the threshold and of the records in the rows before it
unfoldable pub heading : Task → ℕ → List ℕ
heading task q =
    hit_count task
    ∷ first_number task.scoring
    ∷ second_number task.scoring
    ∷ q
    ∷ kind_number task.scoring
    ∷ length task.pattern
    ∷ threshold_word task.scoring
    ∷ columns_left (hit_count task) q
    ∷ next_row (hit_count task) q
    ∷ next_shared task (columns_left (hit_count task) q) (next_row (hit_count task) q)
    ∷ highest_after task q
    ∷ []

-- tops: the greatest record of each block of rows
unfoldable pub tops_after : Task → ℕ → List ℕ
tops_after task q = map (block_top (order_of task) (best_after task q)) (range 0 (block_count (hit_count task)))

-- starts: m at the first row of each block in the column in hand, and one 0 more
unfoldable pub starts_after : Task → ℕ → List ℕ
starts_after task q =
    map (start_of task.pattern (hit_codes task) (columns_left (hit_count task) q)) (range 0 (suc (block_count (hit_count task))))

-- a table of the work words: where it begins, and what it holds
pub record Table : Type 0 where
  pub begins : ℕ
  pub holds : List ℕ

-- the tables: heading; back; the hits' indices in the text; reach; the column in hand; tops; starts
unfoldable pub tables : Task → ℕ → List Table
tables task q =
    record { begins = 0; holds = heading task q }
    ∷ record { begins = back_from; holds = map (back task.pattern (hit_codes task)) (range 0 (hit_count task)) }
    ∷ record { begins = index_from; holds = hits task }
    ∷ record { begins = reach_from; holds = map (reach task.pattern (hit_codes task)) (range 0 (hit_count task)) }
    ∷ record { begins = best_from; holds = best_after task q }
    ∷ record { begins = tops_from; holds = tops_after task q }
    ∷ record { begins = starts_from; holds = starts_after task q }
    ∷ []

-- what a word holds: the table's where it lies in one, else what it held before start
abbrev pub word_in : List Table → ℕ → ℕ → ℕ
word_in [] old n = old
word_in (table ∷ rest) old n =
    cond (leb table.begins n && ltb n (table.begins + length table.holds))
    (get_or table.holds (n - table.begins) 0)
    (word_in rest old n)

-- all work words after q cells, given the words before start
unfoldable pub session_words : Task → List ℕ → ℕ → List ℕ
session_words task before q = map (λ (n : ℕ). word_in (tables task q) (get_or before n 0) n) (range 0 (length before))
