-- The column in hand keeps records: a cell's score word enters its row only where it is greater than the threshold and than all scores
-- of the cells passed in the rows up to its own.
use Rattle.std.specs.Prelude.{ℕ, suc, ◌*◌, Bool, cond, List, [], ◌∷◌, take, drop, set}
use Rattle.session_words.specs.Layout.{block_rows}

module _ (at_most : ℕ → ℕ → Bool) where
  -- the greater of two score words, and the first where their scores are equal
  unfoldable pub greater : ℕ → ℕ → ℕ
  greater a b = cond (at_most b a) a b

  -- the greatest of a score word and of these, and the first of several
  abbrev pub highest : ℕ → List ℕ → ℕ
  highest top [] = top
  highest top (x ∷ xs) = highest (greater top x) xs

  -- the greatest of the threshold and of the records in the rows before this one
  unfoldable pub highest_before : ℕ → List ℕ → ℕ → ℕ
  highest_before threshold best row = highest threshold (take row best)

  -- the column in hand with a cell of this row passed: its score word is a record, or nothing changes
  unfoldable pub with_record : ℕ → List ℕ → ℕ → ℕ → List ℕ
  with_record threshold best row score = cond (at_most score (highest_before threshold best (suc row))) best (set best row score)

  -- the greatest record of a block of rows, 0 where it has none
  unfoldable pub block_top : List ℕ → ℕ → ℕ
  block_top best block = highest 0 (take block_rows (drop (block * block_rows) best))
