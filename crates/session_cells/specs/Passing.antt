-- What passing the cells of a column answers, and what it leaves of any part of any work words, made by start and steps or not.
use Rattle.std.specs.Prelude.{ℕ, zero, suc, ◌+◌, ◌-◌, ◌*◌, ◌/◌, ◌%◌, min, Bool, true, false, cond, not, ◌&&◌, List, leb, ltb, eqb, length, get_or, set}
use Rattle.base.specs.Limits.{hit_limit, word_limit}
use Rattle.base.specs.Lists.{bit}
use Rattle.session_words.specs.Layout.{index_from, reach_from, best_from, block_rows, tops_from, starts_from, part_length}
use Rattle.session_records.specs.Words.{numerator, denominator, at_most}
use Rattle.session_records.specs.Records.{greater}
use Rattle.session_cells.specs.declared.cells.Line.{Line}
use Rattle.session_cells.specs.declared.cells.Passed.{Passed}

-- where reach and the record of row i stand in the part, which begins with the indices, and the top and the start of block b
abbrev pub reach_at : ℕ → ℕ
reach_at i = reach_from - index_from + i

abbrev pub best_at : ℕ → ℕ
best_at i = best_from - index_from + i

abbrev pub top_at : ℕ → ℕ
top_at b = tops_from - index_from + b

abbrev pub start_at : ℕ → ℕ
start_at b = starts_from - index_from + b

-- m less one or none, as a word
abbrev pub lowered : ℕ → ℕ → ℕ
lowered m one = (m + word_limit - one) % word_limit

-- the score word of a cell of the line, whose m is this and whose left end has index x in the text
unfoldable pub line_score : Line → ℕ → ℕ → ℕ
line_score line m x = (line.gain * m + line.v * x + line.base) % word_limit

-- the order of the line's score words
abbrev pub order_in : Line → ℕ → ℕ → Bool
order_in line = at_most line.fractions

-- 1 where hit i is reasonable as the left end in this line's column
unfoldable pub in_reach : Line → List ℕ → ℕ → ℕ
in_reach line part i = bit (ltb line.column (get_or part (reach_at i) 0))

-- the part with this score word entered in row i as a record, where it is greater than what the rows up to i have seen
unfoldable pub entered : Bool → List ℕ → ℕ → ℕ → ℕ → List ℕ
entered fractions part i s seen =
    cond (at_most fractions s seen)
    part
    (set (set part (best_at i) s) (top_at (i / block_rows)) (greater (at_most fractions) s (get_or part (top_at (i / block_rows)) 0)))

-- the divisor of the fraction of a cell of the line: the column's own part, which base holds, less x and m, as a word
unfoldable pub line_divisor : Line → ℕ → ℕ → ℕ
line_divisor line m x = (3 * word_limit - 1 - line.base - x - m) % word_limit

-- the score of a cell of the line is at least what the rows up to its own have seen, the threshold included: a number by its score word, a
-- fraction by cross products of m and its divisor
unfoldable pub matters : Line → ℕ → ℕ → ℕ → Bool
matters line seen m x =
    cond line.fractions (leb (numerator seen * line_divisor line m x) (m * denominator seen)) (leb seen (line_score line m x))

-- Definition 1 at a cell of row i that matters, or not: both of its ends are reasonable
unfoldable pub candidate_test : Bool → ℕ → ℕ → ℕ → Bool
candidate_test matter one back i = matter && eqb one 1 && leb back i

-- a column's update: what it answers, and the part of the work words afterwards
pub record Update : Type 0 where
  pub answer : Passed
  pub part : List ℕ

-- what is answered where the last cell passed is no candidate, or none was passed: of the next one the row, m, and what the rows before it
-- have seen
abbrev pub none_passed : ℕ → ℕ → ℕ → Passed
none_passed i m highest = record { found = false; row = i; m = m; highest = highest }

-- ---- cell by cell

-- the next n cells of the line from row i on, up to the first candidate; the rows before i have seen `highest`
abbrev pub pass_rows : Line → ℕ → ℕ → ℕ → ℕ → List ℕ → Update
pass_rows line zero i m highest part = record { answer = none_passed i m highest; part = part }
pass_rows line (suc n) i m highest part =
    let x = get_or part i 0 in
    let s = line_score line m x in
    let seen = greater (order_in line) highest (get_or part (best_at i) 0) in
    let one = in_reach line part i in
    let matter = matters line seen m x in
    let after = cond matter (entered line.fractions part i s seen) part in
    let top = cond matter (greater (order_in line) seen s) seen in
    let later = pass_rows line n (suc i) (lowered m one) top after in
    cond (candidate_test matter one line.back i)
    (record { answer = record { found = true; row = suc i; m = lowered m one; highest = top }; part = after })
    later

-- ---- block by block

-- where the rest of a block ends, from row i on: with the block, or with the column
unfoldable pub rest_end : Line → ℕ → ℕ
rest_end line i = min ((i / block_rows + 1) * block_rows) (line.column + 1)

-- the rest of the block is skipped: it ends within the rows that are asked for, and m of its first row with the length of its last does not
-- reach what the rows before it have seen
unfoldable pub skips : Line → ℕ → ℕ → ℕ → ℕ → List ℕ → Bool
skips line to i m highest part = leb (rest_end line i) to && not (matters line highest m (get_or part (rest_end line i - 1) 0))

-- behind the rest of the block of row i
unfoldable pub skipped : Line → ℕ → ℕ → List ℕ → Passed
skipped line i highest part =
    none_passed (rest_end line i) (get_or part (start_at (i / block_rows + 1)) 0) (greater (order_in line) highest (get_or part (top_at (i / block_rows)) 0))

-- the rest of the block of row i, or its rows below `to`
unfoldable pub pass_rest : Line → ℕ → ℕ → ℕ → ℕ → List ℕ → Update
pass_rest line to i m highest part =
    cond (skips line to i m highest part)
    (record { answer = skipped line i highest part; part = part })
    (pass_rows line (min (rest_end line i) to - i) i m highest part)

-- the rows from i up to `to`, up to the first candidate, by at most n blocks
abbrev pub pass_blocks : Line → ℕ → ℕ → ℕ → ℕ → ℕ → List ℕ → Update
pass_blocks line zero to i m highest part = record { answer = none_passed i m highest; part = part }
pass_blocks line (suc n) to i m highest part =
    let rest = pass_rest line to i m highest part in
    let later = pass_blocks line n to rest.answer.row rest.answer.m rest.answer.highest rest.part in
    cond (ltb i to) (cond rest.answer.found rest later) (record { answer = none_passed i m highest; part = part })

-- ---- a column

-- a part of all tables, in which the rows from `from` up to `to` lie, none of them behind the line's column
unfoldable pub fits : Line → List ℕ → ℕ → ℕ → Bool
fits line part from to = eqb (length part) part_length && leb to hit_limit && leb to (line.column + 1) && leb from to

-- the cells of the rows from `from` up to `to`, up to the first candidate; where the rows do not fit, none
unfoldable pub column_pass : Line → ℕ → ℕ → ℕ → ℕ → List ℕ → Update
column_pass line from to m highest part = pass_blocks line (cond (fits line part from to) (to - from) 0) to from m highest part

-- the cell of this row; where it does not fit, none
unfoldable pub cell_pass : Line → ℕ → ℕ → ℕ → List ℕ → Update
cell_pass line row m highest part = pass_rows line (cond (fits line part row (row + 1)) 1 0) row m highest part
