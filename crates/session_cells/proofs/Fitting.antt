-- When rows fit a part: what passing them comes to where they do and where they do not.
use Prim.Native.Nat.{ℕ, ◌+◌, ◌-◌, ◌≤◌}
use mathlib.Core.Path.{◌≡◌, refl, sym}
use mathlib.Core.Bool.{Bool, true, false, ◌&&◌}
use mathlib.Core.List.{List}
use borrow.Author.Tests.{eqb-true, leb-true, eq-eqb, le-leb}
use lib.Dec.{leb, eqb}
use lib.ListN.{length}
use Rattle.base.specs.Limits.{hit_limit}
use Rattle.base.proofs.Lists.{and_left, and_right}
use Rattle.session_words.specs.Layout.{part_length}
use Rattle.session_cells.specs.declared.cells.Line.{Line}
use Rattle.session_cells.specs.Passing.{none_passed, pass_rows, pass_blocks, fits, column_pass, cell_pass}

module _ (line : Line) (part : List ℕ) (from to : ℕ) where
  pub fits_says : fits line part from to ≡ true → (length part ≡ part_length) × (from ≤ to) × (to ≤ hit_limit) × (to ≤ line.column + 1)
  unfolding fits
  fits_says e =
      let long = eqb (length part) part_length in
      let within = leb to hit_limit in
      let column = leb to (line.column + 1) in
      let front = and_left (long && within && column) (leb from to) e in
      let first = and_left (long && within) column front in (
        eqb-true (length part) part_length (and_left long within first),
        leb-true from to (and_right (long && within && column) (leb from to) e),
        leb-true to hit_limit (and_right long within first),
        leb-true to (line.column + 1) (and_right (long && within) column front),
      )

  pub fits_all : length part ≡ part_length → from ≤ to → to ≤ hit_limit → to ≤ line.column + 1 → fits line part from to ≡ true
  unfolding fits
  fits_all l a b c = rw (eq-eqb (length part) part_length l, le-leb to hit_limit b, le-leb to (line.column + 1) c, le-leb from to a)

  -- where one of these does not hold, they do not fit
  pub fits_not : ((length part ≡ part_length) × (from ≤ to) × (to ≤ hit_limit) × (to ≤ line.column + 1) → ⊥) → fits line part from to ≡ false
  fits_not h = go (fits line part from to) refl
    where
      go : (t : Bool) → fits line part from to ≡ t → fits line part from to ≡ false
      go true e = absurd (h (fits_says e))
      go false e = e

module _ (line : Line) (from to m highest : ℕ) (part : List ℕ) where
  pub pass_fits : fits line part from to ≡ true → column_pass line from to m highest part ≡ pass_blocks line (to - from) to from m highest part
  unfolding column_pass
  pass_fits e = rw e

  pub pass_none : fits line part from to ≡ false → column_pass line from to m highest part ≡ record { answer = none_passed from m highest; part = part }
  unfolding column_pass
  pass_none e = rw e

  -- of a part that is lent on as a whole
  pub passed_as : {lent : List ℕ} → fits line part from to ≡ true → lent ≡ part
      → pass_blocks line (to - from) to from m highest lent ≡ column_pass line from to m highest part
  passed_as e same = rw same (sym (pass_fits e))

module _ (line : Line) (row m highest : ℕ) (part : List ℕ) where
  pub cell_fits : fits line part row (row + 1) ≡ true → cell_pass line row m highest part ≡ pass_rows line 1 row m highest part
  unfolding cell_pass
  cell_fits e = rw e

  pub cell_none : fits line part row (row + 1) ≡ false → cell_pass line row m highest part ≡ record { answer = none_passed row m highest; part = part }
  unfolding cell_pass
  cell_none e = rw e

  pub cell_passed_as : {lent : List ℕ} → fits line part row (row + 1) ≡ true → lent ≡ part
      → pass_rows line 1 row m highest lent ≡ cell_pass line row m highest part
  cell_passed_as e same = rw same (sym (cell_fits e))
