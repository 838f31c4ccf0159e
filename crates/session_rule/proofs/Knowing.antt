-- What the column in hand knows after q cells: the greatest of the threshold and of the scores passed in the rows up to each row.
use Prim.Native.Nat.{ℕ, zero, suc, ◌+◌, ◌≤◌, ◌<◌}
use native.Mathlib.Nat.{le_refl}
use native.Mathlib.Omega.{arith}
use mathlib.Core.Path.{◌≡◌, refl, sym, ap, ◌∙◌, subst}
use mathlib.Core.Logic.{◌⊎◌, inl, inr}
use mathlib.Core.List.{List, [], ◌∷◌, ◌++◌}
use lib.ListN.{length, get_or, take, replicate}
use lib.Seq.{take-suc}
use Rattle.base.proofs.Lists.{eq_or_ne}
use Rattle.mappings.specs.Score.{Task}
use Rattle.mappings.specs.Cells.{Cell, hits, hit_count, cell_count, cells, cells_of, left_end, right_end}
use Rattle.mappings.specs.Places.{place}
use Rattle.mappings.proofs.Cells.{cell_at, cell_count_suc, cell_count_mono, length_cells, get_d_cells, place_within, place_row, place_column}
use Rattle.session_records.specs.Records.{with_record}
use Rattle.session_records.proofs.Knowledge.{Knows, knows_none, knows_cell, knows_column}
use Rattle.session_start.specs.ScoreWords.{threshold_word, score_word_of}
use Rattle.session_start.specs.WorkWords.{order_of, with_cell, with_cells, best_after}
use Rattle.session_start.proofs.WorkWords.{task_order, length_best_after}

module _ (task : Task) where
  -- the score word of cell (i, j)
  unfoldable pub score_at : ℕ → ℕ → ℕ
  score_at i j = score_word_of task (get_or (hits task) i 0) (get_or (hits task) j 0)

  -- the score word of the threshold
  abbrev pub least : ℕ
  least = threshold_word task.scoring

  -- what the column in hand knows where cell (i, j) is next
  abbrev pub KnowsAt : List ℕ → ℕ → ℕ → Type 0
  KnowsAt best i j = Knows (order_of task) (task_order task) least (hit_count task) score_at best i j

  with_cells_snoc : (best : List ℕ) (xs : List Cell) (cell : Cell) → with_cells task best (xs ++ cell ∷ []) ≡ with_cell task (with_cells task best xs) cell
  with_cells_snoc best [] cell = refl
  with_cells_snoc best (x ∷ xs) cell = with_cells_snoc (with_cell task best x) xs cell

  -- the column in hand after the cell with number q + 1
  pub best_next : (i j q : ℕ) → i ≤ j → j < hit_count task → place (hit_count task) i j ≡ q
      → best_after task (suc q) ≡ with_record (order_of task) least (best_after task q) i (score_at i j)
  unfolding best_after cells_of with_cell left_end right_end score_at
  best_next i j q a l e =
      let h = hit_count task in
      let inside : place h i j < length (cells h) = subst (λ (n : ℕ). place h i j < n) (sym (length_cells h)) (place_within h i j a l) in
      let here : get_or (cells h) q (cell_at i j) ≡ cell_at i j =
      ap (λ (n : ℕ). get_or (cells h) n (cell_at i j)) (sym e) ∙ get_d_cells h i j (cell_at i j) a l in
      ap (with_cells task (replicate h 0)) (take-suc (cells h) q (cell_at i j) (subst (λ (n : ℕ). n < length (cells h)) e inside))
      ∙ with_cells_snoc (replicate h 0) (take q (cells h)) (get_or (cells h) q (cell_at i j))
      ∙ ap (with_cell task (with_cells task (replicate h 0) (take q (cells h)))) here

  -- ---- along all cells

  -- where no cell is before (i, j), it is the first of the last column; and only there
  column_behind : (j : ℕ) → suc j < hit_count task → cell_count (suc j) < cell_count (hit_count task)
  column_behind j l =
      let e : cell_count (suc (suc j)) ≡ suc (suc j) + cell_count (suc j) = cell_count_suc (suc j) in
      let m : cell_count (suc (suc j)) ≤ cell_count (hit_count task) = cell_count_mono (suc (suc j)) (hit_count task) l in
      omega arith

  first_cell : (i j : ℕ) → j < hit_count task → place (hit_count task) i j ≡ 0 → (i ≡ 0) × (suc j ≡ hit_count task)
  unfolding place
  first_cell i j l e = (omega arith, go (eq_or_ne (suc j) (hit_count task)))
    where
      go : (suc j ≡ hit_count task) ⊎ (suc j ≡ hit_count task → ⊥) → suc j ≡ hit_count task
      go (inl f) = f
      go (inr n) = absurd (let m : cell_count (suc j) < cell_count (hit_count task) = column_behind j (omega arith) in omega arith)

  later_column : (j q : ℕ) → j < hit_count task → place (hit_count task) 0 j ≡ suc q → suc j < hit_count task
  unfolding place
  later_column j q l e = go (eq_or_ne (suc j) (hit_count task))
    where
      go : (suc j ≡ hit_count task) ⊎ (suc j ≡ hit_count task → ⊥) → suc j < hit_count task
      go (inl f) = absurd (let g : cell_count (suc j) ≡ cell_count (hit_count task) = ap cell_count f in omega arith)
      go (inr n) = omega arith

  after_cell : (q i j : ℕ) → i ≤ j → j < hit_count task → place (hit_count task) i j ≡ q → KnowsAt (best_after task q) i j
      → KnowsAt (best_after task (suc q)) (suc i) j
  after_cell q i j a l e k =
      subst (λ (best : List ℕ). KnowsAt best (suc i) j) (sym (best_next i j q a l e))
      (knows_cell (order_of task) (task_order task) least (hit_count task) score_at (best_after task q) i j a l
      (subst (λ (n : ℕ). j < n) (sym (length_best_after task q)) l) k)

  pub known : (q i j : ℕ) → i ≤ j → j < hit_count task → place (hit_count task) i j ≡ q → KnowsAt (best_after task q) i j
  unfolding best_after
  known zero i j a l e =
      let f = first_cell i j l e in
      subst (λ (r : ℕ). KnowsAt (replicate (hit_count task) 0) r j) (sym f.0)
      (knows_none (order_of task) (task_order task) least (hit_count task) score_at j f.1)
  known (suc q) zero j a l e =
      let m : suc j < hit_count task = later_column j q l e in
      let f : suc (place (hit_count task) (suc j) (suc j)) ≡ suc q = sym (place_column (hit_count task) j m) ∙ e in
      let g : place (hit_count task) (suc j) (suc j) ≡ q = omega arith in
      knows_column (order_of task) (task_order task) least (hit_count task) score_at (best_after task (suc q)) j m
      (after_cell q (suc j) (suc j) (le_refl (suc j)) m g (known q (suc j) (suc j) (le_refl (suc j)) m g))
  known (suc q) (suc i) j a l e =
      let f : suc (place (hit_count task) i j) ≡ suc q = sym (place_row (hit_count task) i j) ∙ e in
      let g : place (hit_count task) i j ≡ q = omega arith in
      after_cell q i j (omega arith) l g (known q i j (omega arith) l g)
