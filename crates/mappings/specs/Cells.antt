-- Hits of the text, and cells: pairs of hits in the order in which a session passes them.
use Rattle.std.specs.Prelude.{ℕ, zero, suc, ◌*◌, ◌/◌, List, [], ◌∷◌, ◌++◌, map, ltb, length, get_or}
use Rattle.base.specs.Lists.{add_if, range}
use Rattle.base.specs.Counts.{occ}
use Rattle.mappings.specs.declared.Score.{Score}
use Rattle.mappings.specs.Score.{Task, score_of, shared_of}

-- the hits among these entries of the text, the first of which has index `at`: the indices whose code is in p
abbrev pub hits_from : List ℕ → ℕ → List ℕ → List ℕ
hits_from p at [] = []
hits_from p at (x ∷ xs) = add_if (ltb 0 (occ x p)) at (hits_from p (suc at) xs)

unfoldable pub hits : Task → List ℕ
hits task = hits_from task.pattern 0 task.text

-- h
unfoldable pub hit_count : Task → ℕ
hit_count task = length (hits task)

-- a cell (i, j), i ≤ j, by the numbers of its two hits, from 0
pub record Cell : Type 0 where
  pub row : ℕ
  pub column : ℕ

-- the first n cells of column j, by rising i
unfoldable pub column : ℕ → ℕ → List Cell
column j n = map (λ (i : ℕ). record { row = i; column = j }) (range 0 n)

-- the cells of the first h hits: by falling j, and for one j by rising i
abbrev pub cells : ℕ → List Cell
cells zero = []
cells (suc j) = column j (suc j) ++ cells j

-- h(h + 1)/2
unfoldable pub cell_count : ℕ → ℕ
cell_count h = h * suc h / 2

-- the cells of a task, in the order of the list
unfoldable pub cells_of : Task → List Cell
cells_of task = cells (hit_count task)

-- the ends of the interval that a cell stands for
unfoldable pub left_end : Task → Cell → ℕ
left_end task cell = get_or (hits task) cell.row 0

unfoldable pub right_end : Task → Cell → ℕ
right_end task cell = get_or (hits task) cell.column 0

-- a mapping as it is handed out
pub record Mapping : Type 0 where
  pub a : ℕ
  pub b : ℕ
  pub score : Score
  pub m : ℕ

unfoldable pub mapping_of : Task → Cell → Mapping
mapping_of task cell = record {
  a = left_end task cell;
  b = right_end task cell;
  score = score_of task (left_end task cell) (right_end task cell);
  m = shared_of task (left_end task cell) (right_end task cell);
}
