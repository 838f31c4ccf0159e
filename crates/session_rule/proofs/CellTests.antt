-- At a cell of a session, the numbers of a line are those of the definitions: the score word, whether the cell matters, m along the column,
-- and Definition 1's tests.
use Prim.Native.Nat.{ℕ, zero, suc, ◌+◌, ◌-◌, ◌*◌, ◌%◌, ◌≤◌, ◌<◌}
use native.Mathlib.Nat.{le_refl, le_trans}
use native.Mathlib.Omega.{arith}
use mathlib.Core.Path.{◌≡◌, refl, sym, ap, ◌∙◌, subst}
use mathlib.Core.Bool.{Bool, true, false, ◌&&◌}
use lib.Arith.{digits_mod}
use lib.Dec.{leb, ltb, eqb}
use lib.ListN.{length, get_or}
use borrow.Author.Tests.{le-leb}
use Rattle.base.specs.Limits.{pattern_limit, hit_limit, word_limit}
use Rattle.base.specs.Lists.{bit}
use Rattle.base.specs.Counts.{occ}
use Rattle.base.proofs.Lists.{clash}
use Rattle.mappings.specs.Score.{Task, interval, threshold_of, at_most, length_of, shared_of, score_of, ThresholdFits}
use Rattle.mappings.specs.Definition1.{AtMost}
use Rattle.mappings.specs.FinalTest.{is_reasonable, is_final, is_final_cell}
use Rattle.mappings.specs.Cells.{hits, hit_count, left_end, right_end}
use Rattle.mappings.specs.HitCodes.{hit_codes}
use Rattle.mappings.specs.Places.{place}
use Rattle.mappings.proofs.Cells.{cell_at}
use Rattle.mappings.proofs.Definition1.{MaximalCell, test_final, cell_final}
use Rattle.mappings.proofs.HitCodes.{length_hit_codes, cell_shared, cell_reasonable}
use Rattle.mappings.proofs.Hits.{hit_within}
use Rattle.mappings.proofs.Range.{Limited, shared_le_size}
use Rattle.mappings.proofs.Shared.{shared_le_length, length_interval, shared_left_end}
use Rattle.session_records.specs.Records.{highest_before}
use Rattle.session_records.proofs.Knowledge.{final_known, known_final}
use Rattle.session_start.specs.Tables.{reach, back}
use Rattle.session_start.specs.ScoreWords.{score_word, score_word_of}
use Rattle.session_start.specs.WorkWords.{order_of, best_after}
use Rattle.session_start.proofs.WorkWords.{task_order}
use Rattle.session_start.proofs.Tables.{reach_test, back_within, back_test, hit_codes_in}
use Rattle.session_cells.specs.Passing.{lowered, line_score, matters, candidate_test}
use Rattle.session_rule.specs.Lines.{session_line, shared_at}
use Rattle.session_rule.proofs.Scores.{line_score_lem, matters_order, scores_order, threshold_order}
use Rattle.session_rule.proofs.Knowing.{score_at, least, known}

one_is : (b : Bool) → eqb (bit b) 1 ≡ b
one_is true = refl
one_is false = refl

module _ (task : Task) (limited : Limited task) where
  -- a cell's place among the codes of the hits
  code_in : (j : ℕ) → j < hit_count task → j < length (hit_codes task)
  code_in j l = subst (λ (n : ℕ). j < n) (sym (length_hit_codes task)) l

  pub shared_few : (i j : ℕ) → i ≤ j → j < hit_count task → shared_at task i j ≤ length task.pattern
  shared_few i j a l =
      subst (λ (n : ℕ). n ≤ length task.pattern) (cell_shared task i j a l) (shared_le_size task (get_or (hits task) i 0) (get_or (hits task) j 0))

  -- ---- m along a column

  -- m of one row further
  shared_less : (i j : ℕ) → i ≤ j → j < hit_count task
      → shared_at task i j ≡ bit (ltb j (reach task.pattern (hit_codes task) i)) + shared_at task (suc i) j
  shared_less i j a l =
      shared_left_end task.pattern (hit_codes task) i j a (code_in j l) ∙ rw (← reach_test task.pattern (hit_codes task) i j a (code_in j l))

  pub shared_next : (i j : ℕ) → i ≤ j → j < hit_count task
      → lowered (shared_at task i j) (bit (ltb j (reach task.pattern (hit_codes task) i))) ≡ shared_at task (suc i) j
  shared_next i j a l =
      less (bit (ltb j (reach task.pattern (hit_codes task) i))) (shared_at task i j) (shared_at task (suc i) j) (shared_less i j a l)
      (le_trans (shared_few i j a l) limited.short_pattern)
    where
      less : (one m n : ℕ) → m ≡ one + n → m ≤ pattern_limit → (m + word_limit - one) % word_limit ≡ n
      less one m n e l =
          let f : m + word_limit - one ≡ 1 * word_limit + n = omega arith in ap (λ (k : ℕ). k % word_limit) f
          ∙ digits_mod 1 (let g : n < word_limit = omega arith in g)

  -- m behind a cell whose left end is reasonable is one less
  pub shared_one : (i j : ℕ) → i ≤ j → j < hit_count task → bit (ltb j (reach task.pattern (hit_codes task) i)) ≡ 1
      → shared_at task (suc i) j + 1 ≡ shared_at task i j
  shared_one i j a l e = let f = shared_less i j a l in omega arith

  -- m does not rise with the row
  pub shared_falls : (i k j : ℕ) → i ≤ k → k ≤ j → j < hit_count task → shared_at task k j ≤ shared_at task i j
  shared_falls i k j a b l =
      let e : k ≡ i + (k - i) = omega arith in
      subst (λ (n : ℕ). shared_at task n j ≤ shared_at task i j) (sym e) (rows (k - i) (omega arith))
    where
      rows : (n : ℕ) → i + n ≤ j → shared_at task (i + n) j ≤ shared_at task i j
      rows zero c = let e : i + 0 ≡ i = omega arith in rw e (le_refl (shared_at task i j))
      rows (suc n) c =
          let e : i + suc n ≡ suc (i + n) = omega arith in
          let s = shared_less (i + n) j (omega arith) l in
          rw e (let r = rows n (omega arith) in omega arith)

  -- a cell shares its right end at least
  shared_some : (i j : ℕ) → i ≤ j → j < hit_count task → 1 ≤ shared_at task i j
  shared_some i j a l =
      let p = task.pattern in
      let g = hit_codes task in
      let own : leb (occ (get_or g j 0) (interval g j j)) (occ (get_or g j 0) p) ≡ true =
      sym (back_test p g (hit_codes_in task) j j (le_refl j) (code_in j l))
      ∙ le-leb (back p g j) j (back_within p g (hit_codes_in task) j (code_in j l)) in
      let e : shared_at task j j ≡ 1 + shared_at task (suc j) j = shared_left_end p g j j (le_refl j) (code_in j l) ∙ rw own in
      omega (arith, shared_falls i j j a (le_refl j) l)

  -- and at most as many hits as there are
  shared_hits : (i j : ℕ) → i ≤ j → j < hit_count task → shared_at task i j ≤ hit_count task
  shared_hits i j a l =
      let m : shared_at task i j ≤ length (interval (hit_codes task) i j) = shared_le_length task.pattern (interval (hit_codes task) i j) in
      omega (arith, length_interval (hit_codes task) i j (code_in j l))

  -- ---- score words

  -- a cell's score word, by m of the hits' codes
  pub score_by : (i j : ℕ) → i ≤ j → j < hit_count task
      → score_at task i j
      ≡ score_word task.scoring (length task.pattern) (shared_at task i j) (suc (get_or (hits task) j 0) - get_or (hits task) i 0)
  unfolding score_at score_word_of length_of
  score_by i j a l = rw (cell_shared task i j a l)

  pub score_is : hit_count task ≤ hit_limit → (i j : ℕ) → i ≤ j → j < hit_count task
      → line_score (session_line task j) (shared_at task i j) (get_or (hits task) i 0) ≡ score_at task i j
  score_is small i j a l =
      line_score_lem task limited i j (shared_at task i j) a l (shared_some i j a l) (shared_few i j a l) (le_trans (shared_hits i j a l) small)
      ∙ sym (score_by i j a l)

  -- ---- whether a cell matters

  -- m of row i with the length of row k
  pub matters_with : (i k j seen : ℕ) → i ≤ j → k ≤ j → j < hit_count task
      → matters (session_line task j) seen (shared_at task i j) (get_or (hits task) k 0)
      ≡ order_of task seen
      (score_word task.scoring (length task.pattern) (shared_at task i j) (suc (get_or (hits task) j 0) - get_or (hits task) k 0))
  matters_with i k j seen a b l = matters_order task limited k j (shared_at task i j) seen b l (shared_some i j a l) (shared_few i j a l)

  pub matters_is : (i j seen : ℕ) → i ≤ j → j < hit_count task
      → matters (session_line task j) seen (shared_at task i j) (get_or (hits task) i 0) ≡ order_of task seen (score_at task i j)
  matters_is i j seen a l = matters_with i i j seen a a l ∙ ap (order_of task seen) (sym (score_by i j a l))

  -- ---- the tests

  some_shared : (i j : ℕ) → i ≤ j → j < hit_count task → 1 ≤ shared_of task (get_or (hits task) i 0) (get_or (hits task) j 0)
  some_shared i j a l = rw (cell_shared task i j a l) (shared_some i j a l)

  module _ (threshold_fits : ThresholdFits task.scoring) (i j : ℕ) (a : i ≤ j) (l : j < hit_count task) where
    abbrev x : ℕ
    x = get_or (hits task) i 0

    abbrev y : ℕ
    y = get_or (hits task) j 0

    threshold_is : at_most (threshold_of task.scoring) (score_of task x y) ≡ order_of task (least task) (score_at task i j)
    unfolding score_at
    threshold_is = threshold_order task limited threshold_fits x y (hit_within task j l) (some_shared i j a l)

    scores_are : (r c : ℕ) → r ≤ c → c < hit_count task
        → at_most (score_of task (get_or (hits task) r 0) (get_or (hits task) c 0)) (score_of task x y) ≡ order_of task (score_at task r c) (score_at task i j)
    unfolding score_at
    scores_are r c o k =
        scores_order task limited (get_or (hits task) r 0) (get_or (hits task) c 0) x y (hit_within task c k) (hit_within task j l)
        (some_shared r c o k) (some_shared i j a l)

    left_is : is_reasonable task x y x ≡ eqb (bit (ltb j (reach task.pattern (hit_codes task) i))) 1
    left_is =
        cell_reasonable task i j i a l (omega arith)
        ∙ sym (reach_test task.pattern (hit_codes task) i j a (code_in j l))
        ∙ sym (one_is (ltb j (reach task.pattern (hit_codes task) i)))

    right_is : is_reasonable task x y y ≡ leb (back task.pattern (hit_codes task) j) i
    right_is = cell_reasonable task i j j a l l ∙ sym (back_test task.pattern (hit_codes task) (hit_codes_in task) i j a (code_in j l))

    -- the tests by words are Definition 1's: one comparison stands for the threshold and for being maximal
    pub final_test : (q : ℕ) → place (hit_count task) i j ≡ q
        → candidate_test (order_of task (highest_before (order_of task) (least task) (best_after task q) (suc i)) (score_at task i j))
        (bit (ltb j (reach task.pattern (hit_codes task) i))) (back task.pattern (hit_codes task) j) i
        ≡ is_final_cell task (cell_at i j)
    unfolding candidate_test is_final_cell left_end right_end AtMost
    final_test q at = go (order_of task seen (score_at task i j)) refl (at_most (threshold_of task.scoring) (score_of task x y)) refl
      where
        seen : ℕ
        seen = highest_before (order_of task) (least task) (best_after task q) (suc i)

        ends : Bool
        ends = eqb (bit (ltb j (reach task.pattern (hit_codes task) i))) 1

        not_final : (b : Bool) → is_final task x y ≡ b → at_most (threshold_of task.scoring) (score_of task x y) ≡ false → false ≡ b
        not_final true e f = clash (test_final task x y e).enough f
        not_final false e f = refl

        go : (b : Bool) → order_of task seen (score_at task i j) ≡ b → (c : Bool) → at_most (threshold_of task.scoring) (score_of task x y) ≡ c
            → (b && ends && leb (back task.pattern (hit_codes task) j) i) ≡ is_final task x y
        go true t c f =
            let k = final_known (order_of task) (task_order task) (least task) (hit_count task) (score_at task) (best_after task q) i j a l
            (known task q i j a l at) t in
            let maximal : MaximalCell task i j = λ r c p o n. scores_are r c (omega arith) n ∙ k.1 r c p o n in
            let enough : at_most (threshold_of task.scoring) (score_of task x y) ≡ true = threshold_is ∙ k.0 in
            sym (cell_final task i j a l true (λ e. maximal) (λ e. refl)
            ∙ rw (enough, left_is, right_is) (unit ends (leb (back task.pattern (hit_codes task) j) i)))
          where
            unit : (b c : Bool) → (true && b && c && true) ≡ (true && b && c)
            unit true true = refl
            unit true false = refl
            unit false c = refl
        go false t true f =
            let low : MaximalCell task i j → false ≡ true = λ m.
            sym t
            ∙ known_final (order_of task) (task_order task) (least task) (hit_count task) (score_at task) (best_after task q) i j a l (known task q i j a l at)
            (sym threshold_is ∙ f) (λ r c p o n. sym (scores_are r c (omega arith) n) ∙ m r c p o n) in
            sym (cell_final task i j a l false (λ e. clash e refl) low
            ∙ none (at_most (threshold_of task.scoring) (score_of task x y) && is_reasonable task x y x && is_reasonable task x y y))
          where
            none : (b : Bool) → (b && false) ≡ false
            none true = refl
            none false = refl
        go false t false f = not_final (is_final task x y) refl f
