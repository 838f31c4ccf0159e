-- What leaving a column does to starts, the words that hold m at the first row of each block: the column's hit adds one to m in the rows
-- from its back up to its own, and is gone from the next column on.
use Rattle.std.specs.Prelude.{ℕ, suc, ◌*◌, Bool, cond, ◌&&◌, List, [], ◌∷◌, leb}
use Rattle.session_words.specs.Layout.{block_rows}
use Rattle.session_cells.specs.Passing.{lowered}

-- m at the first row of block b is lowered: that row lies from `back` up to the column's own
unfoldable pub is_lowered : ℕ → ℕ → ℕ → Bool
is_lowered back column b = leb back (b * block_rows) && leb (b * block_rows) column

-- starts from block b on
abbrev pub left_starts : ℕ → ℕ → ℕ → List ℕ → List ℕ
left_starts back column b [] = []
left_starts back column b (m ∷ starts) = cond (is_lowered back column b) (lowered m 1) m ∷ left_starts back column (suc b) starts
