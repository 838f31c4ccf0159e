-- Leaving a column of a session: its hit is gone from m at the first row of each block.
use Prim.Native.Nat.{ℕ, zero, suc, ◌+◌, ◌-◌, ◌*◌, ◌%◌, ◌≤◌, ◌<◌}
use native.Mathlib.Nat.{le_refl, le_trans}
use native.Mathlib.Omega.{arith}
use mathlib.Core.Path.{◌≡◌, refl, sym, ap, ◌∙◌, subst}
use mathlib.Core.Bool.{Bool, true, false, cond, ◌&&◌}
use mathlib.Core.List.{List}
use lib.Arith.{digits_mod}
use lib.Dec.{leb}
use lib.ListN.{length, take, length-take, drop_of_length-le}
use borrow.Author.Tests.{le-leb, lt-leb, leb-true, leb-false}
use Rattle.base.specs.Limits.{pattern_limit, word_limit}
use Rattle.base.specs.Lists.{bit}
use Rattle.mappings.specs.Score.{Task, interval, shared}
use Rattle.mappings.specs.Cells.{hit_count}
use Rattle.mappings.specs.HitCodes.{hit_codes}
use Rattle.mappings.proofs.HitCodes.{length_hit_codes}
use Rattle.mappings.proofs.Range.{Limited}
use Rattle.mappings.proofs.Shared.{shared_nil, shared_left_end, shared_right_end, shared_le_pattern}
use Rattle.session_words.specs.Layout.{block_rows}
use Rattle.session_start.specs.Tables.{back, start_of}
use Rattle.session_start.proofs.Tables.{back_test, hit_codes_in}
use Rattle.session_cells.specs.Passing.{lowered}
use Rattle.session_cells.specs.Leaving.{is_lowered}

-- no hits behind the column
pub none_shared : (p g : List ℕ) (i j : ℕ) → j < i → shared p (interval g i j) ≡ 0
unfolding interval
none_shared p g i j l =
    let few : length (take (suc j) g) ≤ i = omega (arith, length-take (suc j) g) in
    ap (shared p) (drop_of_length-le (take (suc j) g) few) ∙ shared_nil p

-- m less the column's hit, where it adds one
less : (b : Bool) (m n : ℕ) → m ≡ bit b + n → n ≤ pattern_limit → cond b (lowered m 1) m ≡ n
less true m n e l =
    let f : m + word_limit - 1 ≡ 1 * word_limit + n = omega arith in
    ap (λ (k : ℕ). k % word_limit) f ∙ digits_mod 1 (let g : n < word_limit = omega arith in g)
less false m n e l = omega arith

module _ (task : Task) (limited : Limited task) where
  abbrev p : List ℕ
  p = task.pattern

  abbrev g : List ℕ
  g = hit_codes task

  few : (s : List ℕ) → shared p s ≤ pattern_limit
  few s = le_trans (shared_le_pattern p s) limited.short_pattern

  -- m of rows from a on in column j, by that of the column before it
  right_end : (j a : ℕ) → j < hit_count task → a ≤ j → (n : ℕ) → shared p (interval g a j) ≡ bit (leb (back p g j) a) + n
      → cond (leb (back p g j) a && leb a j) (lowered (shared p (interval g a j)) 1) (shared p (interval g a j)) ≡ n
  right_end j a l b n e =
      let m : n ≤ shared p (interval g a j) = omega arith in
      rw (le-leb a j b) (go (leb (back p g j) a) e (le_trans m (few (interval g a j))))
    where
      go : (t : Bool) → shared p (interval g a j) ≡ bit t + n → n ≤ pattern_limit
          → cond (t && true) (lowered (shared p (interval g a j)) 1) (shared p (interval g a j)) ≡ n
      go true e k = less true (shared p (interval g a j)) n e k
      go false e k = less false (shared p (interval g a j)) n e k

  -- the first row of a block that begins behind the column
  behind : (j a : ℕ) → j < a
      → cond (leb (back p g j) a && leb a j) (lowered (shared p (interval g a j)) 1) (shared p (interval g a j)) ≡ 0
  behind j a l = rw (lt-leb a j l) (go (leb (back p g j) a))
    where
      go : (t : Bool) → cond (t && false) (lowered (shared p (interval g a j)) 1) (shared p (interval g a j)) ≡ 0
      go true = none_shared p g a j l
      go false = none_shared p g a j l

  code_in : (j : ℕ) → j < hit_count task → j < length g
  code_in j l = subst (λ (n : ℕ). j < n) (sym (length_hit_codes task)) l

  -- starts of a column, by those of the one behind it
  pub left_start : (j b : ℕ) → j < hit_count task
      → cond (is_lowered (back p g j) j b) (lowered (start_of p g (suc j) b) 1) (start_of p g (suc j) b) ≡ start_of p g j b
  unfolding is_lowered
  left_start j b l = go j l (leb (b * block_rows) j) refl
    where
      go : (j : ℕ) → j < hit_count task → (t : Bool) → leb (b * block_rows) j ≡ t
          → cond (leb (back p g j) (b * block_rows) && leb (b * block_rows) j) (lowered (start_of p g (suc j) b) 1) (start_of p g (suc j) b) ≡ start_of p g j b
      go zero l true t =
          let z : b * block_rows ≡ 0 = omega (arith, leb-true (b * block_rows) 0 t) in
          let k = code_in 0 l in
          let e : shared p (interval g 0 0) ≡ bit (leb (back p g 0) 0) + 0 =
          shared_left_end p g 0 0 (le_refl 0) k
          ∙ rw (← back_test p g (hit_codes_in task) 0 0 (le_refl 0) k, none_shared p g 1 0 (le_refl 1)) in
          rw z (right_end 0 0 l (le_refl 0) 0 e)
      go (suc j) l true t =
          let a = b * block_rows in
          let in_column : b * block_rows ≤ suc j = leb-true (b * block_rows) (suc j) t in
          let k = code_in (suc j) l in
          let e : shared p (interval g (b * block_rows) (suc j)) ≡ bit (leb (back p g (suc j)) (b * block_rows)) + shared p (interval g (b * block_rows) j) =
          shared_right_end p g (b * block_rows) j in_column k ∙ rw (← back_test p g (hit_codes_in task) (b * block_rows) (suc j) in_column k) in
          right_end (suc j) (b * block_rows) l in_column (shared p (interval g (b * block_rows) j)) e
      go zero l false t = behind 0 (b * block_rows) (leb-false (b * block_rows) 0 t)
      go (suc j) l false t =
          let c : suc j < b * block_rows = leb-false (b * block_rows) (suc j) t in
          behind (suc j) (b * block_rows) c ∙ sym (none_shared p g (b * block_rows) j (omega arith))
