-- Skipping the rest of a block in the words of a session: none of its cells is final, and none is a record.
use Prim.Native.Nat.{ℕ, zero, suc, ◌+◌, ◌-◌, ◌*◌, ◌/◌, ◌≤◌, ◌<◌}
use native.Mathlib.Omega.{arith}
use mathlib.Core.Path.{◌≡◌, refl, sym, ap, ◌∙◌, subst}
use mathlib.Core.Bool.{Bool, true, false, not}
use mathlib.Core.List.{List, ◌∷◌}
use lib.Dec.{leb}
use lib.ListN.{length, get_or, drop}
use Rattle.base.proofs.Lists.{and_left, and_right}
use borrow.Author.Tests.{leb-true}
use Rattle.mappings.specs.Score.{Task, ThresholdFits}
use Rattle.mappings.specs.Cells.{hits, hit_count, cells_of}
use Rattle.mappings.specs.FinalTest.{is_final_cell}
use Rattle.mappings.specs.Places.{place}
use Rattle.mappings.specs.Rule.{rule_answer}
use Rattle.mappings.specs.Steps.{more_cells}
use Rattle.mappings.proofs.Cells.{cell_at, drop_cells}
use Rattle.mappings.proofs.Hits.{hit_at_most}
use Rattle.mappings.proofs.Range.{Limited}
use Rattle.mappings.proofs.Rule.{rule_pass, more_cells_lem}
use Rattle.session_words.specs.Layout.{block_rows}
use Rattle.session_records.specs.Records.{greater, highest_before}
use Rattle.session_records.proofs.Blocks.{block_highest}
use Rattle.session_records.proofs.Skipping.{bound as bound-law, unreached}
use Rattle.session_start.specs.ScoreWords.{score_word}
use Rattle.session_start.specs.WorkWords.{order_of, best_after}
use Rattle.session_start.proofs.WorkWords.{task_order}
use Rattle.session_cells.specs.Passing.{matters, candidate_test, top_at, start_at, rest_end, skips, skipped}
use Rattle.session_rule.specs.Lines.{session_line, shared_at}
use Rattle.session_rule.proofs.Scores.{words_monotone}
use Rattle.session_rule.proofs.Knowing.{score_at, least, best_next}
use Rattle.session_rule.proofs.CellTests.{shared_falls, matters_with, score_by, final_test}
use Rattle.session_rule.proofs.Chunk.{At, Chunk, all_passed, more_none}

-- the cell with number q + 1
pub next_cell : (task : Task) (i j q : ℕ) → i ≤ j → j < hit_count task → place (hit_count task) i j ≡ q
    → drop q (cells_of task) ≡ cell_at i j ∷ drop (suc q) (cells_of task)
unfolding cells_of
next_cell task i j q a l at =
    subst (λ (n : ℕ). drop n (cells_of task) ≡ cell_at i j ∷ drop (suc n) (cells_of task)) at (drop_cells (hit_count task) i j a l)

-- where the rest of a block ends
pub rest_within : (task : Task) (i j : ℕ) → i ≤ j → (i < rest_end (session_line task j) i) × (rest_end (session_line task j) i ≤ suc j)
unfolding rest_end
rest_within task i j a = (omega arith, omega arith)

rest_block : (task : Task) (i j : ℕ) → rest_end (session_line task j) i ≤ j → rest_end (session_line task j) i ≡ (i / block_rows + 1) * block_rows
unfolding rest_end
rest_block task i j a = omega arith

-- the place some rows further on
pub place_further : (h i n j q : ℕ) → place h i j ≡ q → place h (i + n) j ≡ q + n
unfolding place
place_further h i n j q e = omega arith

not_true : (b : Bool) → not b ≡ true → b ≡ false
not_true true e = sym e
not_true false e = refl

module _ (task : Task) (limited : Limited task) (threshold_fits : ThresholdFits task.scoring)
    (j i q m highest to : ℕ) (part : List ℕ) (a : i ≤ j) (l : j < hit_count task) (at : At task j i q m highest part)
    (skip : skips (session_line task j) to i m highest part ≡ true) where
  abbrev end : ℕ
  end = rest_end (session_line task j) i

  -- what bounds the cells of the rest: the score word of m of the first with the length of the last
  abbrev most : ℕ
  most = score_word task.scoring (length task.pattern) (shared_at task i j) (suc (get_or (hits task) j 0) - get_or (hits task) (end - 1) 0)

  last_in : end - 1 ≤ j
  last_in = omega (arith, rest_within task i j a)

  -- and whether it reaches what the rows before have seen
  abbrev reached : Bool
  reached = matters (session_line task j) highest m (get_or part (end - 1) 0)

  reached_is : reached ≡ order_of task (highest_before (order_of task) (least task) (best_after task q) i) most
  reached_is =
      rw ((at.known a).0, (at.known a).1, at.holds.index_word (end - 1) (omega (arith, last_in)))
      (matters_with task limited i (end - 1) j (highest_before (order_of task) (least task) (best_after task q) i) a last_in l)

  pub ends_within : end ≤ to
  unfolding skips
  ends_within = leb-true end to (and_left (leb end to) (not reached) skip)

  low : order_of task (highest_before (order_of task) (least task) (best_after task q) i) most ≡ false
  unfolding skips
  low = sym reached_is ∙ not_true reached (and_right (leb end to) (not reached) skip)

  -- each cell of the rest scores at most the bound
  bounded : (k : ℕ) → i ≤ k → k < end → order_of task (score_at task k j) most ≡ true
  bounded k b c =
      let in_column : k ≤ j = omega (arith, last_in) in
      rw (score_by task limited k j in_column l)
      (bound-law (order_of task) (task_order task) (words_monotone task.scoring (length task.pattern)) (λ (r : ℕ). shared_at task r j)
      (λ (r : ℕ). get_or (hits task) r 0) (get_or (hits task) j 0) i k (end - 1)
      (λ r s p o. shared_falls task limited r s j p (omega (arith, last_in)) l)
      (λ r s p o. hit_at_most task r s p (omega (arith, last_in)))
      b (omega arith))

  -- after some cells of the rest the column in hand is the same, and the rule has passed them
  record Idle (n : ℕ) : Type 0 where
    same_best : best_after task (q + n) ≡ best_after task q
    passed : (B : ℕ) → rule_answer task q (n + B) ≡ more_cells n (rule_answer task (q + n) B)

  idle : (n : ℕ) → i + n ≤ end → Idle n
  unfolding candidate_test
  idle zero c =
      let e : q + 0 ≡ q = omega arith in
      record { same_best = ap (best_after task) e; passed = λ B. (let z : 0 + B ≡ B = omega arith in rw (e, z) (sym (more_none (rule_answer task q B)))) }
  idle (suc n) c =
      let before = idle n (omega arith) in
      let inside : i + n ≤ j = omega (arith, last_in) in
      let here : place (hit_count task) (i + n) j ≡ q + n = place_further (hit_count task) i n j q at.place_is in
      let under = bounded (i + n) (omega arith) (omega arith) in
      let u = unreached (order_of task) (task_order task) (least task) (best_after task q) i (i + n) (score_at task (i + n) j) most (omega arith) under low in
      let seen : order_of task (highest_before (order_of task) (least task) (best_after task (q + n)) (suc (i + n))) (score_at task (i + n) j) ≡ false =
      rw before.same_best u.1 in
      let not_final : is_final_cell task (cell_at (i + n) j) ≡ false =
      sym (final_test task limited threshold_fits (i + n) j inside l (q + n) here) ∙ rw seen in
      let e : q + suc n ≡ suc (q + n) = omega arith in
      record {
        same_best = ap (best_after task) e ∙ best_next task (i + n) j (q + n) inside l here ∙ rw before.same_best u.0;
        passed = λ B.
            (let s : suc n + B ≡ n + suc B = omega arith in
            let t : n + 1 ≡ suc n = omega arith in
            ap (rule_answer task q) s
            ∙ before.passed (suc B)
            ∙ ap (more_cells n) (rule_pass task (q + n) (cell_at (i + n) j) (next_cell task (i + n) j (q + n) inside l here) B not_final)
            ∙ more_cells_lem n 1 (rule_answer task (suc (q + n)) B)
            ∙ ap (λ (c : ℕ). more_cells c (rule_answer task (suc (q + n)) B)) t
            ∙ ap (λ (c : ℕ). more_cells (suc n) (rule_answer task c B)) (sym e));
      }

  -- behind the rest of the block
  pub skip_chunk : Chunk task j i (end - i) q part (record { answer = skipped (session_line task j) i highest part; part = part })
  unfolding skipped
  skip_chunk =
      let w = rest_within task i j a in
      let e : i + (end - i) ≡ end = omega (arith, w) in
      let all = idle (end - i) (omega (arith, w)) in
      all_passed refl (sym e)
      (λ c. behind (omega (arith, w)))
      (record {
        number = at.holds.number;
        index_word = at.holds.index_word;
        reach_word = at.holds.reach_word;
        best_word = λ r k. rw all.same_best (at.holds.best_word r k);
        top_word = λ b k. rw all.same_best (at.holds.top_word b k);
        start_word = at.holds.start_word;
      })
      (λ n o o'. refl)
      all.passed
    where
      block : ℕ
      block = i / block_rows

      behind : end ≤ j → (get_or part (start_at (block + 1)) 0 ≡ shared_at task (i + (end - i)) j)
          × (greater (order_of task) highest (get_or part (top_at block) 0)
          ≡ highest_before (order_of task) (least task) (best_after task (q + (end - i))) (i + (end - i)))
      behind c =
          let w = rest_within task i j a in
          let b : end ≡ (block + 1) * block_rows = rest_block task i j c in
          let e : i + (end - i) ≡ (block + 1) * block_rows = omega (arith, w) in
          let f : (block + 1) * block_rows ≡ block * block_rows + block_rows = omega arith in
          let all = idle (end - i) (omega (arith, w)) in (
            rw e (at.holds.start_word (block + 1) (omega arith)),
            rw (e, f, all.same_best, (at.known a).1, at.holds.top_word block (omega arith))
                (sym (block_highest (order_of task) (task_order task) (least task) (best_after task q) block i (omega arith) (omega arith))),
          )
