-- The place of a session after q cells is the cell with number q + 1, or behind the last column.
use Prim.Native.Nat.{ℕ, zero, suc, ◌+◌, ◌-◌, ◌≤◌, ◌<◌}
use native.Mathlib.Nat.{not-suc-le-zero}
use native.Mathlib.Omega.{arith}
use mathlib.Core.Path.{◌≡◌, refl, sym, subst}
use mathlib.Core.Logic.{◌⊎◌, inl, inr}
use borrow.Author.Tests.{lt-ltb, le-ltb}
use Rattle.base.proofs.Lists.{eq_or_ne}
use Rattle.mappings.specs.Cells.{cell_count}
use Rattle.mappings.specs.Places.{place}
use Rattle.mappings.proofs.Cells.{cell_count_suc, cell_count_mono}
use Rattle.session_start.specs.WorkWords.{columns_left, next_row}

-- the columns left and the row of the next cell
pub record PlaceIs (h q columns row : ℕ) : Type 0 where
  pub columns_are : columns_left h q ≡ columns
  pub row_is : next_row h q ≡ row

-- a column further on, with the cells of the first column passed
shifted : (h q columns row : ℕ) → suc h ≤ q → PlaceIs h (q - suc h) columns row → PlaceIs (suc h) q columns row
shifted h q columns row l p = record {
  columns_are = rw (le-ltb q (suc h) l) p.columns_are;
  row_is = rw (le-ltb q (suc h) l) p.row_is;
}

-- the first column that is passed
in_first : (k i : ℕ) → i ≤ k → PlaceIs (suc k) (place (suc k) i k) (suc k) i
unfolding place
in_first k i a =
    let e : cell_count (suc k) - cell_count (suc k) + i ≡ i = omega arith in
    rw e (record { columns_are = rw (lt-ltb i (suc k) (omega arith)); row_is = rw (lt-ltb i (suc k) (omega arith)) })

-- a cell of a later column has the first column's cells before it
in_later : (k i j : ℕ) → i ≤ j → j < k → (suc k ≤ place (suc k) i j) × (place (suc k) i j - suc k ≡ place k i j)
unfolding place
in_later k i j a b =
    let e : cell_count (suc k) ≡ suc k + cell_count k = cell_count_suc k in
    let m : cell_count (suc j) ≤ cell_count k = cell_count_mono (suc j) k b in
    (omega arith, omega arith)

pub at_cell : (h i j : ℕ) → i ≤ j → j < h → PlaceIs h (place h i j) (suc j) i
at_cell zero i j a b = absurd (not-suc-le-zero b)
at_cell (suc k) i j a b = go (λ l. at_cell k i j a l) (eq_or_ne j k)
  where
    go : (j < k → PlaceIs k (place k i j) (suc j) i) → (j ≡ k) ⊎ (j ≡ k → ⊥) → PlaceIs (suc k) (place (suc k) i j) (suc j) i
    go rec (inl e) = subst (λ (n : ℕ). PlaceIs (suc k) (place (suc k) i n) (suc n) i) (sym e) (in_first k i (omega arith))
    go rec (inr n) =
        let l : j < k = omega arith in
        let at = in_later k i j a l in
        shifted k (place (suc k) i j) (suc j) i at.0 (rw at.1 (rec l))

pub at_end : (h : ℕ) → PlaceIs h (cell_count h) 0 0
at_end zero = record { columns_are = refl; row_is = refl }
at_end (suc k) =
    let e : cell_count (suc k) ≡ suc k + cell_count k = cell_count_suc k in
    let f : cell_count (suc k) - suc k ≡ cell_count k = omega arith in
    shifted k (cell_count (suc k)) 0 0 (omega arith) (rw f (at_end k))
