-- Passing the next rows of a column in the words of a session, cell by cell and block by block, is passing the next cells by the rule.
use Prim.Native.Nat.{ℕ, zero, suc, ◌+◌, ◌-◌, ◌≤◌, ◌<◌, min, zero-le, suc-le-suc}
use native.Mathlib.Omega.{arith}
use mathlib.Core.Path.{◌≡◌, refl, sym, ap, ◌∙◌, subst}
use mathlib.Core.Bool.{Bool, true, false, cond, ◌&&◌}
use mathlib.Core.List.{List}
use lib.Dec.{leb, ltb, eqb}
use borrow.Author.Tests.{eqb-true, ltb-true, ltb-false}
use Rattle.base.specs.Limits.{hit_limit}
use Rattle.base.proofs.Lists.{clash, and_left, and_right}
use Rattle.mappings.specs.Score.{Task, ThresholdFits}
use Rattle.mappings.specs.Cells.{hit_count}
use Rattle.mappings.specs.FinalTest.{is_final_cell}
use Rattle.mappings.specs.Places.{place}
use Rattle.mappings.proofs.Cells.{cell_at, place_row}
use Rattle.mappings.proofs.Range.{Limited}
use Rattle.mappings.proofs.Rule.{rule_found, rule_pass}
use Rattle.session_cells.specs.Passing.{lowered, in_reach, candidate_test, Update, pass_rows}
use Rattle.session_cells.specs.Passing.{rest_end, skips, pass_rest, pass_blocks}
use Rattle.session_rule.specs.Lines.{session_line, shared_at}
use Rattle.session_rule.proofs.CellTests.{shared_one}
use Rattle.session_rule.proofs.Chunk.{Known, At, Chunk, all_passed, one_found, none, join}
use Rattle.session_rule.proofs.OneCell.{matter_at, top_after, part_after, m_next, one_reach, test_at, seen_next, holds_next, same_next}
use Rattle.session_rule.proofs.Skipping.{next_cell, rest_within, place_further, ends_within, skip_chunk}

-- a candidate's left end is reasonable
candidate_one : (matter : Bool) (one back i : ℕ) → candidate_test matter one back i ≡ true → one ≡ 1
unfolding candidate_test
candidate_one matter one back i t = eqb-true one 1 (and_right matter (eqb one 1) (and_left (matter && eqb one 1) (leb back i) t))

chosen : (b : Bool) (one other : Update) → b ≡ true → cond b one other ≡ one
chosen true one other e = refl
chosen false one other e = clash e refl

module _ (task : Task) (limited : Limited task) (threshold_fits : ThresholdFits task.scoring) (small : hit_count task ≤ hit_limit)
    (j : ℕ) (l : j < hit_count task) where
  -- ---- cell by cell

  -- behind a cell
  behind : (i q m highest : ℕ) (part : List ℕ) → i ≤ j → At task j i q m highest part
      → At task j (suc i) (suc q) (lowered m (in_reach (session_line task j) part i)) (top_after task j i m highest part)
      (part_after task j i m highest part)
  behind i q m highest part a at = record {
    place_is = place_row (hit_count task) i j ∙ ap suc at.place_is;
    known = λ c. (
      m_next task limited threshold_fits small j i q m highest part a l at,
      seen_next task limited threshold_fits small j i q m highest part a l at,
    );
    holds = holds_next task limited threshold_fits small j i q m highest part a l at;
  }

  pub rows_chunk : (n i q m highest : ℕ) (part : List ℕ) → i + n ≤ suc j → At task j i q m highest part
      → Chunk task j i n q part (pass_rows (session_line task j) n i m highest part)
  rows_chunk zero i q m highest part fits at =
      none task j i q m highest part (pass_rows (session_line task j) 0 i m highest part) at refl refl refl refl refl
  rows_chunk (suc n) i q m highest part fits at =
      let a : i ≤ j = omega arith in
      let next = behind i q m highest part a at in
      go (is_final_cell task (cell_at i j)) refl a next (rows_chunk n (suc i) (suc q) _ _ _ (omega arith) next)
    where
      matter : Bool
      matter = matter_at task j i m highest part

      reasonable : ℕ
      reasonable = in_reach (session_line task j) part i

      top : ℕ
      top = top_after task j i m highest part

      after : List ℕ
      after = part_after task j i m highest part

      go : (b : Bool) → is_final_cell task (cell_at i j) ≡ b → i ≤ j
          → At task j (suc i) (suc q) (lowered m reasonable) top after
          → Chunk task j (suc i) n (suc q) after (pass_rows (session_line task j) n (suc i) (lowered m reasonable) top after)
          → Chunk task j i (suc n) q part (pass_rows (session_line task j) (suc n) i m highest part)
      go true e a next later =
          let t : candidate_test matter reasonable (session_line task j).back i ≡ true =
          test_at task limited threshold_fits small j i q m highest part a l at ∙ e in
          let h : i + 0 ≡ i = omega arith in
          let g : q + 1 ≡ suc q = omega arith in
          let r : reasonable ≡ 1 = candidate_one matter reasonable (session_line task j).back i t in
          rw t
          (one_found 0 (suc-le-suc zero-le) refl (ap suc (sym h))
          (rw h (one_more a r))
          (rw h e)
          (rw (h, g) next.known)
          (rw g next.holds)
          (same_next task limited threshold_fits small j i q m highest part a l at)
          (λ B. (let z : 1 + B ≡ suc B = omega arith in rw (z, h)
          (rule_found task q (cell_at i j) (next_cell task i j q a l at.place_is) B e))))
        where
          one_more : i ≤ j → reasonable ≡ 1 → lowered m reasonable + 1 ≡ shared_at task i j
          one_more a r =
              rw (m_next task limited threshold_fits small j i q m highest part a l at)
              (shared_one task limited i j a l (sym (one_reach task limited threshold_fits small j i q m highest part a l at) ∙ r))
      go false e a next later =
          let t : candidate_test matter reasonable (session_line task j).back i ≡ false =
          test_at task limited threshold_fits small j i q m highest part a l at ∙ e in
          rw t
          (join task j i (suc i) 1 n (suc n) q (suc q) part after
          (pass_rows (session_line task j) n (suc i) (lowered m reasonable) top after) (omega arith) (omega arith) (omega arith)
          (same_next task limited threshold_fits small j i q m highest part a l at)
          (λ B. (let z : 1 + B ≡ suc B = omega arith in rw z (rule_pass task q (cell_at i j) (next_cell task i j q a l at.place_is) B e)))
          later)

  -- ---- block by block

  rest_chunk : (to i q m highest : ℕ) (part : List ℕ) → i ≤ j → i < to → to ≤ suc j → At task j i q m highest part
      → Chunk task j i (min (rest_end (session_line task j) i) to - i) q part (pass_rest (session_line task j) to i m highest part)
  unfolding pass_rest
  rest_chunk to i q m highest part a b fits at = go (skips (session_line task j) to i m highest part) refl
    where
      go : (t : Bool) → skips (session_line task j) to i m highest part ≡ t
          → Chunk task j i (min (rest_end (session_line task j) i) to - i) q part (pass_rest (session_line task j) to i m highest part)
      go true t =
          let w : rest_end (session_line task j) i ≤ to = ends_within task limited threshold_fits j i q m highest to part a l at t in
          let e : min (rest_end (session_line task j) i) to ≡ rest_end (session_line task j) i = omega arith in
          rw (t, e) (skip_chunk task limited threshold_fits j i q m highest to part a l at t)
      go false t = rw t (rows_chunk (min (rest_end (session_line task j) i) to - i) i q m highest part (omega (arith, rest_within task i j a)) at)

  pub blocks_chunk : (n to i q m highest : ℕ) (part : List ℕ) → i ≤ to → to ≤ suc j → to - i ≤ n → At task j i q m highest part
      → Chunk task j i (to - i) q part (pass_blocks (session_line task j) n to i m highest part)
  blocks_chunk zero to i q m highest part b fits enough at =
      let z : to - i ≡ 0 = omega arith in
      rw z (none task j i q m highest part (pass_blocks (session_line task j) 0 to i m highest part) at refl refl refl refl refl)
  blocks_chunk (suc n) to i q m highest part b fits enough at =
      go (ltb i to) refl (λ i' q' m' highest' part'. blocks_chunk n to i' q' m' highest' part')
    where
      rest : Update
      rest = pass_rest (session_line task j) to i m highest part

      passed : ℕ
      passed = min (rest_end (session_line task j) i) to - i

      -- the blocks behind this one
      Later : Type 0
      Later =
          (i' q' m' highest' : ℕ) (part' : List ℕ) → i' ≤ to → to ≤ suc j → to - i' ≤ n
          → At task j i' q' m' highest' part'
          → Chunk task j i' (to - i') q' part' (pass_blocks (session_line task j) n to i' m' highest' part')

      on : ltb i to ≡ true → i < to → Later → Chunk task j i passed q part rest
          → Chunk task j i (to - i) q part (pass_blocks (session_line task j) (suc n) to i m highest part)
      on t c later (all_passed f r known holds out rule) =
          let w = rest_within task i j (omega arith) in
          rw (t, f)
          (join task j i rest.answer.row passed (to - rest.answer.row) (to - i) q (q + passed) part rest.part
          (pass_blocks (session_line task j) n to rest.answer.row rest.answer.m rest.answer.highest rest.part) r refl (omega (arith, w))
          out rule
          (later rest.answer.row (q + passed) rest.answer.m rest.answer.highest rest.part (omega (arith, w)) fits
          (omega (arith, w))
          (record {
            place_is = ap (λ (k : ℕ). place (hit_count task) k j) r ∙ place_further (hit_count task) i passed j q at.place_is;
            known = subst (λ (k : ℕ). Known task j k (q + passed) rest.answer.m rest.answer.highest) (sym r) known;
            holds = holds;
          })))
      on t c later (one_found k within f r em final known holds out rule) =
          subst (Chunk task j i (to - i) q part) (sym (chosen (ltb i to) _ _ t ∙ chosen rest.answer.found _ _ f))
          (one_found k (omega arith) f r em final known holds out rule)

      go : (t : Bool) → ltb i to ≡ t → Later → Chunk task j i (to - i) q part (pass_blocks (session_line task j) (suc n) to i m highest part)
      go true t later = let c : i < to = ltb-true i to t in on t c later (rest_chunk to i q m highest part (omega arith) c fits at)
      go false t later =
          let c : to ≤ i = ltb-false i to t in
          let z : to - i ≡ 0 = omega arith in
          rw (t, z) (none task j i q m highest part (pass_blocks (session_line task j) 0 to i m highest part) at refl refl refl refl refl)
