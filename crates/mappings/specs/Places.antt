-- Where a cell stands in the order of the list: what the proofs number cells by.
use Rattle.std.specs.Prelude.{ℕ, suc, ◌+◌, ◌-◌}
use Rattle.mappings.specs.Cells.{cell_count}

-- how many of the cells of h hits stand before cell (i, j)
unfoldable pub place : ℕ → ℕ → ℕ → ℕ
place h i j = cell_count h - cell_count (suc j) + i
