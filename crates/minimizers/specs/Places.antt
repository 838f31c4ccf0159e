-- The sketch by positions among all the letters: what the functions that scan letters speak of.
use Rattle.std.specs.Prelude.{ℕ, ◌≤◌, ◌<◌, List, drop}
use Rattle.base.specs.Lists.{keep, any}
use Rattle.kmers.specs.Letters.{runs}
use Rattle.kmers.specs.Kmers.{Entry}
use Rattle.kmers.specs.Places.{span}
use Rattle.minimizers.specs.Windows.{windows, neighbours, picks}
use Rattle.minimizers.specs.Sketch.{picked_by, sketch_runs}

-- the sketch of a run with these k-mers
unfoldable pub span_sketch : ℕ → ℕ → List ℕ → ℕ → ℕ → List Entry
span_sketch k w letters from to = picked_by (windows w (span k letters from to)) (span k letters from to)

-- what the letters from position `at` on add to the sketch, where a run begins there
unfoldable pub sketch_from : ℕ → ℕ → List ℕ → ℕ → List Entry
sketch_from k w letters at = sketch_runs k w at (runs (drop at letters))

-- among the positions from `from` up to, and without, `to`, p has the lowest rank, and is the rightmost of equal ones
pub record IsLowest (ranks : ℕ → ℕ) (from to p : ℕ) : Type 0 where
  pub first : from ≤ p
  pub last : p < to
  pub left : (q : ℕ) → from ≤ q → q < p → ranks p ≤ ranks q
  pub right : (q : ℕ) → p < q → q < to → ranks p < ranks q

-- of the k-mers from position m on, those that a window picks that begins at position i or later, where the run has its last
-- k-mer before position `to`
unfoldable pub picked_from : ℕ → ℕ → List ℕ → ℕ → ℕ → ℕ → List Entry
picked_from k w letters to i m = keep (λ (e : Entry). any (picks e.position) (neighbours w (span k letters i to))) (span k letters m to)
