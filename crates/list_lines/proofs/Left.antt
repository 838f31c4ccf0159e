-- What the number of cells left in some work words says of them.
use Prim.Native.Nat.{ℕ, suc, ◌-◌, ◌≤◌, ◌<◌}
use native.Mathlib.Omega.{arith}
use mathlib.Core.Path.{◌≡◌, refl}
use mathlib.Core.Bool.{Bool, true, false, cond, ◌||◌}
use mathlib.Core.List.{List}
use lib.Dec.{ltb}
use lib.ListN.{length, get_or}
use borrow.Author.Tests.{ltb-true, ltb-false, le-ltb}
use Rattle.base.specs.Limits.{hit_limit, work_words}
use Rattle.mappings.specs.Cells.{cell_count}
use Rattle.mappings.proofs.Cells.{cell_count_mono}
use Rattle.session_words.specs.FirstWords.{hits_at, passed_at}
use Rattle.list_lines.specs.Pieces.{cells_left, cell_limit}

-- no session has more cells
pub few_cells : (h : ℕ) → h ≤ hit_limit → cell_count h ≤ cell_limit
unfolding cell_count
few_cells h l = cell_count_mono h hit_limit l

module _ (work : List ℕ) where
  abbrev h : ℕ
  h = get_or work hits_at 0

  abbrev passed : ℕ
  passed = get_or work passed_at 0

  -- words 0 and 3 are within their limits
  pub record Some : Type 0 where
    pub long : work_words ≤ length work
    pub few_hits : h ≤ hit_limit
    pub among : passed ≤ cell_count h

  pub left_is : Some → cells_left work ≡ suc (cell_count h - passed)
  unfolding cells_left
  left_is s =
      rw (le-ltb (length work) work_words s.long, le-ltb hit_limit h s.few_hits, le-ltb (cell_count h) passed s.among)

  -- more than 0 are left only in such words
  pub left_some : 0 < cells_left work → Some
  unfolding cells_left
  left_some = go (ltb (length work) work_words) refl (ltb hit_limit h) refl (ltb (cell_count h) passed) refl
    where
      go : (a : Bool) → ltb (length work) work_words ≡ a → (b : Bool) → ltb hit_limit h ≡ b → (c : Bool) → ltb (cell_count h) passed ≡ c
          → 0 < cond (ltb (length work) work_words || ltb hit_limit h || ltb (cell_count h) passed) 0 (suc (cell_count h - passed)) → Some
      go true e b f c g l = let z : 0 < 0 = rw e at l in absurd (omega arith)
      go false e true f c g l = let z : 0 < 0 = rw (e, f) at l in absurd (omega arith)
      go false e false f true g l = let z : 0 < 0 = rw (e, f, g) at l in absurd (omega arith)
      go false e false f false g l =
          record {
            long = ltb-false (length work) work_words e;
            few_hits = ltb-false hit_limit h f;
            among = ltb-false (cell_count h) passed g;
          }

  -- and never more than a session has cells, and one
  pub left_few : cells_left work ≤ suc cell_limit
  left_few = go (ltb 0 (cells_left work)) refl
    where
      go : (b : Bool) → ltb 0 (cells_left work) ≡ b → cells_left work ≤ suc cell_limit
      go true e =
          let s = left_some (ltb-true 0 (cells_left work) e) in
          let most : cell_count h ≤ cell_limit = few_cells h s.few_hits in
          omega (arith, left_is s)
      go false e = let none : cells_left work ≤ 0 = ltb-false 0 (cells_left work) e in omega arith
