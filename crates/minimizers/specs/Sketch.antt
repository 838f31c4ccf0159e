-- The sketch of letters.
use Rattle.std.specs.Prelude.{ℕ, suc, ◌+◌, List, [], ◌∷◌, ◌++◌, length}
use Rattle.base.specs.Lists.{keep, any}
use Rattle.kmers.specs.Letters.{runs}
use Rattle.kmers.specs.Kmers.{Entry, kmers}
use Rattle.minimizers.specs.Windows.{windows, picks}

-- the k-mers that some window picks, each once and in their order
unfoldable pub picked_by : List (List Entry) → List Entry → List Entry
picked_by ws es = keep (λ (e : Entry). any (picks e.position) ws) es

-- the sketch of one run whose first letter has index `at`
unfoldable pub run_sketch : ℕ → ℕ → ℕ → List ℕ → List Entry
run_sketch k w at run = picked_by (windows w (kmers k at run)) (kmers k at run)

-- the sketches of neighbouring runs, one letter outside the eight standing between two of them
unfoldable pub sketch_runs : ℕ → ℕ → ℕ → List (List ℕ) → List Entry
sketch_runs k w at [] = []
sketch_runs k w at (run ∷ rest) = run_sketch k w at run ++ sketch_runs k w (at + suc (length run)) rest

-- the sketch: the picked k-mers by rising position, each position once
unfoldable pub sketch : ℕ → ℕ → List ℕ → List Entry
sketch k w letters = sketch_runs k w 0 (runs letters)
