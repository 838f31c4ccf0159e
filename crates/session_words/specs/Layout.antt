-- The layout of the work words behind the first five: where each word and each table of a session stands. docs/WORK_WORDS.md says in a
-- table what they hold.
use Rattle.std.specs.Prelude.{ℕ, ◌+◌, ◌-◌, ◌/◌}

-- ---- single words

-- the pattern's number of entries
abbrev pub size_at : ℕ
size_at = 5

-- the threshold, as a score word
abbrev pub threshold_at : ℕ
threshold_at = 6

-- the columns left
abbrev pub columns_at : ℕ
columns_at = 7

-- row and m of the next cell
abbrev pub row_at : ℕ
row_at = 8

abbrev pub m_at : ℕ
m_at = 9

-- the greatest of the threshold and of the records in the rows before it
abbrev pub highest_at : ℕ
highest_at = 10

-- ---- tables: one word a hit, from here on

-- the smallest row from which a hit is reasonable as a right end
abbrev pub back_from : ℕ
back_from = 2048

-- a hit's index in the text
abbrev pub index_from : ℕ
index_from = 4096

-- the first column at which a hit is no longer reasonable as a left end
abbrev pub reach_from : ℕ
reach_from = 6144

-- the column in hand: the last record of this row
abbrev pub best_from : ℕ
best_from = 8192

-- ---- blocks of rows, and tables of one word a block

abbrev pub block_rows : ℕ
block_rows = 64

-- how many blocks so many rows make
abbrev pub block_count : ℕ → ℕ
block_count rows = (rows + 63) / block_rows

-- the greatest record of the block's rows
abbrev pub tops_from : ℕ
tops_from = 10240

-- m at the block's first row in the column in hand; one word more than there are blocks
abbrev pub starts_from : ℕ
starts_from = 10272

-- ---- the part that a column's update is lent: indices, reach, best, tops and starts

-- where it ends; it begins at index_from
abbrev pub part_end : ℕ
part_end = 10305

-- how many words it has
abbrev pub part_length : ℕ
part_length = part_end - index_from
