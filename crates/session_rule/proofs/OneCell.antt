-- Passing one cell in the words of a session: its numbers are those of the definitions, and the part afterwards holds one cell more.
use Prim.Native.Nat.{ℕ, suc, ◌+◌, ◌*◌, ◌/◌, ◌≤◌, ◌<◌}
use native.Mathlib.Omega.{arith}
use mathlib.Core.Path.{◌≡◌, refl, sym, ap, ◌∙◌, subst}
use mathlib.Core.Logic.{◌⊎◌, inl, inr}
use mathlib.Core.Bool.{Bool, true, false, cond}
use mathlib.Core.List.{List}
use lib.Dec.{ltb}
use lib.ListN.{length, get_or, set, length-set}
use lib.Seq.{get_or-set_same, get_or-set_other}
use borrow.Author.Tests.{ltb-true, ltb-false}
use Rattle.base.specs.Limits.{hit_limit}
use Rattle.base.specs.Lists.{bit}
use Rattle.base.proofs.Lists.{eq_or_ne}
use Rattle.mappings.specs.Score.{Task, ThresholdFits}
use Rattle.mappings.specs.Cells.{hit_count}
use Rattle.mappings.specs.FinalTest.{is_final_cell}
use Rattle.mappings.specs.HitCodes.{hit_codes}
use Rattle.mappings.proofs.Cells.{cell_at}
use Rattle.mappings.proofs.Range.{Limited}
use Rattle.session_words.specs.Layout.{block_rows, block_count}
use Rattle.session_records.specs.Records.{greater, highest_before, block_top}
use Rattle.session_records.proofs.Greater.{greater_first, greater_second}
use Rattle.session_records.proofs.Highest.{before_suc}
use Rattle.session_records.proofs.Recorded.{record_own, record_top, other_top, recorded, unrecorded}
use Rattle.session_start.specs.Tables.{reach}
use Rattle.session_start.specs.ScoreWords.{by_fractions}
use Rattle.session_start.specs.WorkWords.{order_of, best_after}
use Rattle.session_start.proofs.WorkWords.{task_order, length_best_after}
use Rattle.session_cells.specs.Passing.{reach_at, best_at, top_at, start_at, lowered, line_score, in_reach, entered, matters, candidate_test}
use Rattle.session_rule.specs.Lines.{session_line, shared_at}
use Rattle.session_rule.proofs.Knowing.{score_at, least, best_next}
use Rattle.session_rule.proofs.CellTests.{score_is, matters_is, shared_next, final_test}
use Rattle.session_rule.proofs.Chunk.{PartHolds, SameOutside, At}

-- the block of a row
in_block : (i : ℕ) → (i / block_rows * block_rows ≤ i) × (i < i / block_rows * block_rows + block_rows)
in_block i = (omega arith, omega arith)

other_block : (i b : ℕ) → (b ≡ i / block_rows → ⊥) → (i < b * block_rows) ⊎ (b * block_rows + block_rows ≤ i)
other_block i b n = go (ltb i (b * block_rows)) refl
  where
    go : (t : Bool) → ltb i (b * block_rows) ≡ t → (i < b * block_rows) ⊎ (b * block_rows + block_rows ≤ i)
    go true e = inl (ltb-true i (b * block_rows) e)
    go false e = inr (let l : b * block_rows ≤ i = ltb-false i (b * block_rows) e in omega arith)

-- the numbers at a cell of row i, as a line has them: its score word, what the rows up to it have seen, and whether it matters; and behind it
-- what they have seen, and the part
module _ (task : Task) (j i m highest : ℕ) (part : List ℕ) where
  abbrev score_in : ℕ
  score_in = line_score (session_line task j) m (get_or part i 0)

  abbrev seen_at : ℕ
  seen_at = greater (order_of task) highest (get_or part (best_at i) 0)

  abbrev pub matter_at : Bool
  matter_at = matters (session_line task j) seen_at m (get_or part i 0)

  abbrev pub top_after : ℕ
  top_after = cond matter_at (greater (order_of task) seen_at score_in) seen_at

  abbrev pub part_after : List ℕ
  part_after = cond matter_at (entered (by_fractions task.scoring) part i score_in seen_at) part

module _ (task : Task) (limited : Limited task) (threshold_fits : ThresholdFits task.scoring) (small : hit_count task ≤ hit_limit)
    (j i q m highest : ℕ) (part : List ℕ) (a : i ≤ j) (l : j < hit_count task) (at : At task j i q m highest part) where
  row_in : i < hit_count task
  row_in = omega arith

  in_best : i < length (best_after task q)
  in_best = subst (λ (n : ℕ). i < n) (sym (length_best_after task q)) row_in

  abbrev score : ℕ
  score = score_in task j i m highest part

  abbrev seen : ℕ
  seen = seen_at task j i m highest part

  abbrev matter : Bool
  matter = matter_at task j i m highest part

  abbrev one : ℕ
  one = in_reach (session_line task j) part i

  -- the rows up to i have seen this
  abbrev top : ℕ
  top = highest_before (order_of task) (least task) (best_after task q) (suc i)

  score_at_lem : score ≡ score_at task i j
  score_at_lem = rw ((at.known a).0, at.holds.index_word i row_in) (score_is task limited small i j a l)

  seen_at_lem : seen ≡ top
  seen_at_lem = rw ((at.known a).1, at.holds.best_word i row_in) (sym (before_suc (order_of task) (task_order task) (least task) (best_after task q) i in_best))

  matter_at_lem : matter ≡ order_of task top (score_at task i j)
  matter_at_lem = rw (seen_at_lem, (at.known a).0, at.holds.index_word i row_in) (matters_is task limited i j top a l)

  pub one_reach : one ≡ bit (ltb j (reach task.pattern (hit_codes task) i))
  unfolding in_reach
  one_reach = rw (at.holds.reach_word i row_in)

  pub m_next : lowered m one ≡ shared_at task (suc i) j
  m_next = rw ((at.known a).0, one_reach) (shared_next task limited i j a l)

  pub test_at : candidate_test matter one (session_line task j).back i ≡ is_final_cell task (cell_at i j)
  test_at = rw (matter_at_lem, one_reach) (final_test task limited threshold_fits i j a l q at.place_is)

  -- ---- a record, or none

  -- a cell that does not matter is none
  low : order_of task top (score_at task i j) ≡ false → order_of task (score_at task i j) top ≡ true
  low t = (task_order task).total top (score_at task i j) t

  same_best : order_of task (score_at task i j) top ≡ true → best_after task (suc q) ≡ best_after task q
  same_best t = best_next task i j q a l at.place_is ∙ unrecorded (order_of task) (task_order task) (least task) (best_after task q) i (score_at task i j) t

  set_best : order_of task (score_at task i j) top ≡ false → best_after task (suc q) ≡ set (best_after task q) i (score_at task i j)
  set_best t = best_next task i j q a l at.place_is ∙ recorded (order_of task) (task_order task) (least task) (best_after task q) i (score_at task i j) t

  -- what the rows up to i have seen then
  pub seen_next : top_after task j i m highest part ≡ highest_before (order_of task) (least task) (best_after task (suc q)) (suc i)
  seen_next =
      rw (matter_at_lem, seen_at_lem, score_at_lem)
      (stays (order_of task top (score_at task i j)) refl ∙ go (order_of task (score_at task i j) top) refl)
    where
      stays : (b : Bool) → order_of task top (score_at task i j) ≡ b
          → cond b (greater (order_of task) top (score_at task i j)) top ≡ greater (order_of task) top (score_at task i j)
      stays true t = refl
      stays false t = sym (greater_first (order_of task) (task_order task) top (score_at task i j) (low t))

      go : (b : Bool) → order_of task (score_at task i j) top ≡ b
          → greater (order_of task) top (score_at task i j) ≡ highest_before (order_of task) (least task) (best_after task (suc q)) (suc i)
      go true t = rw (same_best t) (greater_first (order_of task) (task_order task) top (score_at task i j) t)
      go false t =
          rw (set_best t)
          (greater_second (order_of task) (task_order task) top (score_at task i j) t
          ∙ sym (record_own (order_of task) (task_order task) (least task) (best_after task q) i (score_at task i j) in_best t))

  -- the part with the record in it
  module _ (t : order_of task (score_at task i j) top ≡ false) where
    abbrev block : ℕ
    block = i / block_rows

    abbrev raised : ℕ
    raised = greater (order_of task) (score_at task i j) (get_or part (top_at block) 0)

    abbrev inner : List ℕ
    inner = set part (best_at i) (score_at task i j)

    abbrev outer : List ℕ
    outer = set inner (top_at block) raised

    few_blocks : block < block_count (hit_count task)
    few_blocks = omega (arith, row_in)

    other_word : (n : ℕ) → (n ≡ best_at i → ⊥) → (n ≡ top_at block → ⊥) → get_or outer n 0 ≡ get_or part n 0
    other_word n b c = get_or-set_other inner (top_at block) n raised 0 c ∙ get_or-set_other part (best_at i) n (score_at task i j) 0 b

    best_words : (r : ℕ) → r < hit_count task → get_or outer (best_at r) 0 ≡ get_or (set (best_after task q) i (score_at task i j)) r 0
    best_words r k = go (eq_or_ne r i)
      where
        go : (r ≡ i) ⊎ (r ≡ i → ⊥) → get_or outer (best_at r) 0 ≡ get_or (set (best_after task q) i (score_at task i j)) r 0
        go (inl e) =
            rw e
            (get_or-set_other inner (top_at block) (best_at i) raised 0 (λ f. omega arith)
            ∙ get_or-set_same part (best_at i) (score_at task i j) 0 (rw at.holds.number (omega arith))
            ∙ sym (get_or-set_same (best_after task q) i (score_at task i j) 0 in_best))
        go (inr n) =
            other_word (best_at r) (λ f. n (omega arith)) (λ f. omega arith)
            ∙ at.holds.best_word r k
            ∙ sym (get_or-set_other (best_after task q) i r (score_at task i j) 0 n)

    top_words : (b : ℕ) → b < block_count (hit_count task)
        → get_or outer (top_at b) 0 ≡ block_top (order_of task) (set (best_after task q) i (score_at task i j)) b
    top_words b k = go (eq_or_ne b block)
      where
        go : (b ≡ block) ⊎ (b ≡ block → ⊥) → get_or outer (top_at b) 0 ≡ block_top (order_of task) (set (best_after task q) i (score_at task i j)) b
        go (inl e) =
            let long : top_at block < length inner = rw (length-set part (best_at i) (score_at task i j), at.holds.number) (omega (arith, few_blocks)) in
            rw e
            (get_or-set_same inner (top_at block) raised 0 long
            ∙ ap (greater (order_of task) (score_at task i j)) (at.holds.top_word block few_blocks)
            ∙ sym (record_top (order_of task) (task_order task) (least task) (best_after task q) i (score_at task i j) in_best t block
            (in_block i).0 (in_block i).1))
        go (inr n) =
            other_word (top_at b) (λ f. omega arith) (λ f. n (omega arith))
            ∙ at.holds.top_word b k
            ∙ sym (other_top (order_of task) (task_order task) (best_after task q) i (score_at task i j) b (other_block i b n))

    record_holds : PartHolds task j (suc q) outer
    record_holds = record {
      number = length-set inner (top_at block) raised ∙ length-set part (best_at i) (score_at task i j) ∙ at.holds.number;
      index_word = λ r k. other_word r (λ f. omega arith) (λ f. omega arith) ∙ at.holds.index_word r k;
      reach_word = λ r k. other_word (reach_at r) (λ f. omega arith) (λ f. omega arith) ∙ at.holds.reach_word r k;
      best_word = λ r k. rw (set_best t) (best_words r k);
      top_word = λ b k. rw (set_best t) (top_words b k);
      start_word = λ b k. other_word (start_at b) (λ f. omega arith) (λ f. omega (arith, few_blocks)) ∙ at.holds.start_word b k;
    }

    record_same : SameOutside task part outer
    record_same n o o' = other_word n (λ f. out_best o f) (λ f. out_tops o' f)
      where
        out_best : (n < best_at 0) ⊎ (best_at 0 + hit_count task ≤ n) → n ≡ best_at i → ⊥
        out_best (inl k) f = omega arith
        out_best (inr k) f = omega (arith, row_in)

        out_tops : (n < top_at 0) ⊎ (top_at 0 + block_count (hit_count task) ≤ n) → n ≡ top_at block → ⊥
        out_tops (inl k) f = omega arith
        out_tops (inr k) f = omega (arith, few_blocks)

  -- ---- the part afterwards

  abbrev after : List ℕ
  after = part_after task j i m highest part

  after_at : after ≡ entered (by_fractions task.scoring) part i (score_at task i j) top
  unfolding entered
  after_at = rw (matter_at_lem, score_at_lem, seen_at_lem) (go (order_of task top (score_at task i j)) refl)
    where
      go : (b : Bool) → order_of task top (score_at task i j) ≡ b
          → cond b (entered (by_fractions task.scoring) part i (score_at task i j) top) part
          ≡ entered (by_fractions task.scoring) part i (score_at task i j) top
      go true t = refl
      go false t = rw (low t)

  pub holds_next : PartHolds task j (suc q) after
  unfolding entered
  holds_next = subst (PartHolds task j (suc q)) (sym after_at) (go (order_of task (score_at task i j) top) refl)
    where
      go : (b : Bool) → order_of task (score_at task i j) top ≡ b
          → PartHolds task j (suc q) (entered (by_fractions task.scoring) part i (score_at task i j) top)
      go true t = rw t (record {
        number = at.holds.number;
        index_word = at.holds.index_word;
        reach_word = at.holds.reach_word;
        best_word = λ r k. rw (same_best t) (at.holds.best_word r k);
        top_word = λ b k. rw (same_best t) (at.holds.top_word b k);
        start_word = at.holds.start_word;
      })
      go false t = rw t (record_holds t)

  pub same_next : SameOutside task part after
  unfolding entered
  same_next = subst (SameOutside task part) (sym after_at) (go (order_of task (score_at task i j) top) refl)
    where
      go : (b : Bool) → order_of task (score_at task i j) top ≡ b
          → SameOutside task part (entered (by_fractions task.scoring) part i (score_at task i j) top)
      go true t = rw t (λ n o o'. refl)
      go false t = rw t (record_same t)
