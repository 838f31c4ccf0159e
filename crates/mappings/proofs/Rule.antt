-- The rule of a step, unrolled by one cell; what a step passes, finds and reports.
use Prim.Native.Nat.{ℕ, zero, suc, ◌+◌, ◌≤◌, ◌<◌, zero-le}
use native.Mathlib.Nat.{eq-or-lt_of_le, ne_of_lt, le_of_eq, le_of_lt}
use native.Mathlib.Omega.{arith}
use mathlib.Core.Path.{◌≡◌, refl, ap, ◌∙◌}
use mathlib.Core.Logic.{◌⊎◌, inl, inr}
use mathlib.Core.Bool.{Bool, true, false, cond}
use mathlib.Core.List.{List, [], ◌∷◌, map}
use lib.Dec.{eqb}
use lib.ListN.{get_or, take, drop}
use lib.Seq.{take-nil, drop-cons}
use borrow.Author.Tests.{eq-eqb, ne_eqb}
use Rattle.base.specs.Lists.{keep}
use Rattle.base.proofs.Lists.{decided}
use Rattle.mappings.specs.Score.{Task}
use Rattle.mappings.specs.Cells.{Cell, Mapping, mapping_of, cells_of, hit_count, cell_count}
use Rattle.mappings.specs.FinalTest.{is_final_cell}
use Rattle.mappings.specs.Rule.{Answer, found, finished, spent, refused, reported, looked_at, answer_from, rule_answer, handed_out}
use Rattle.mappings.specs.Steps.{more_cells}
use Rattle.mappings.proofs.Cells.{cell_at, length_cells, drop_all_cells}

-- h(h + 1)/2 of a task
abbrev pub total : Task → ℕ
total task = cell_count (hit_count task)

-- the final mappings among these cells, in their order
abbrev pub finals_of : Task → List Cell → List Mapping
finals_of task cells = map (mapping_of task) (keep (is_final_cell task) cells)

-- ---- one cell

-- one cell passed before the step or in it: the answer is the same, with one cell more reported
answer_numbered : (task : Task) (q n : ℕ) (l : List Cell) → answer_from task q (suc n) l ≡ more_cells 1 (answer_from task (suc q) n l)
answer_numbered task q n [] =
    let along : q + suc n ≡ suc q + n = omega arith in
    let one : suc n ≡ 1 + n = omega arith in
    rw (along, one) (go (eqb (suc q + n) (total task)))
  where
    go : (b : Bool) → cond b (finished (1 + n)) (spent (1 + n)) ≡ more_cells 1 (cond b (finished n) (spent n))
    go true = refl
    go false = refl
answer_numbered task q n (cell ∷ rest) = go (is_final_cell task cell) (answer_numbered task q (suc n) rest)
  where
    go : (b : Bool) → answer_from task q (suc (suc n)) rest ≡ more_cells 1 (answer_from task (suc q) (suc n) rest)
        → cond b (found (mapping_of task cell) (suc (suc n))) (answer_from task q (suc (suc n)) rest)
        ≡ more_cells 1 (cond b (found (mapping_of task cell) (suc n)) (answer_from task (suc q) (suc n) rest))
    go true e = ap (found (mapping_of task cell)) (omega arith)
    go false e = e

module _ (task : Task) (q : ℕ) where
  -- no budget: nothing is passed
  pub rule_no_budget : rule_answer task q 0 ≡ cond (eqb q (total task)) (finished 0) (spent 0)
  unfolding rule_answer looked_at
  rule_no_budget = ap (λ (n : ℕ). cond (eqb n (total task)) (finished 0) (spent 0)) (omega arith)

  -- no cell remains
  pub rule_none_left : (B : ℕ) → q ≡ total task → rule_answer task q B ≡ finished 0
  unfolding rule_answer looked_at cells_of
  rule_none_left B e =
      let nothing : take B (drop q (cells_of task)) ≡ [] = ap (λ (n : ℕ). take B (drop n (cells_of task))) e ∙ ap (take B) (drop_all_cells (hit_count task))
      ∙ take-nil B in
      ap (answer_from task q 0) nothing
      ∙ rw (eq-eqb (q + 0) (total task) (omega arith))

  module _ (cell : Cell) (next : drop q (cells_of task) ≡ cell ∷ drop (suc q) (cells_of task)) where
    looked_next : (B : ℕ) → looked_at task q (suc B) ≡ cell ∷ looked_at task (suc q) B
    unfolding looked_at
    looked_next B = ap (take (suc B)) next

    -- the next cell is final: found
    pub rule_found : (B : ℕ) → is_final_cell task cell ≡ true → rule_answer task q (suc B) ≡ found (mapping_of task cell) 1
    unfolding rule_answer
    rule_found B e = ap (answer_from task q 0) (looked_next B) ∙ rw e

    -- the next cell is not final: the answer from there on, with one cell more
    pub rule_pass : (B : ℕ) → is_final_cell task cell ≡ false → rule_answer task q (suc B) ≡ more_cells 1 (rule_answer task (suc q) B)
    unfolding rule_answer
    rule_pass B e = ap (answer_from task q 0) (looked_next B) ∙ rw e (answer_numbered task q 0 (looked_at task (suc q) B))

-- cells reported add up
pub more_cells_lem : (n k : ℕ) (answer : Answer) → more_cells n (more_cells k answer) ≡ more_cells (n + k) answer
more_cells_lem n k (found mapping cells) = ap (found mapping) (omega arith)
more_cells_lem n k (finished cells) = ap finished (omega arith)
more_cells_lem n k (spent cells) = ap spent (omega arith)
more_cells_lem n k (refused number) = refl

-- ---- a whole step

-- how an accepted step with budget B comes to its answer, where q cells have been passed
pub data Passing (task : Task) : ℕ → ℕ → Answer → Type 0 where
  none_left : {q B : ℕ} → q ≡ total task → Passing task q B (finished 0)
  no_budget : {q : ℕ} → q < total task → Passing task q 0 (spent 0)
  final : {q B : ℕ} (cell : Cell) → q < total task → drop q (cells_of task) ≡ cell ∷ drop (suc q) (cells_of task) → is_final_cell task cell ≡ true
      → Passing task q (suc B) (found (mapping_of task cell) 1)
  pass : {q B : ℕ} {answer : Answer} (cell : Cell) → q < total task → drop q (cells_of task) ≡ cell ∷ drop (suc q) (cells_of task)
      → is_final_cell task cell ≡ false → Passing task (suc q) B answer → Passing task q (suc B) (more_cells 1 answer)

next_cell : (task : Task) (q : ℕ) → q < total task → drop q (cells_of task) ≡ get_or (cells_of task) q (cell_at 0 0) ∷ drop (suc q) (cells_of task)
unfolding cells_of
next_cell task q h = drop-cons (cells_of task) q (cell_at 0 0) (rw (length_cells (hit_count task)) h)

pub passing : (task : Task) (q B : ℕ) → q ≤ total task → Passing task q B (rule_answer task q B)
passing task q zero h = go (eq-or-lt_of_le h)
  where
    go : (q ≡ total task) ⊎ (q < total task) → Passing task q 0 (rule_answer task q 0)
    go (inl e) = rw (rule_none_left task q 0 e) (none_left e)
    go (inr l) = rw (rule_no_budget task q, ne_eqb q (total task) (ne_of_lt l)) (no_budget l)
passing task q (suc B) h = go (λ l. passing task (suc q) B l) (eq-or-lt_of_le h) (get_or (cells_of task) q (cell_at 0 0)) (λ l. next_cell task q l)
  where
    go : (q < total task → Passing task (suc q) B (rule_answer task (suc q) B)) → (q ≡ total task) ⊎ (q < total task) → (cell : Cell)
        → (q < total task → drop q (cells_of task) ≡ cell ∷ drop (suc q) (cells_of task)) → Passing task q (suc B) (rule_answer task q (suc B))
    go rec (inl e) cell next = rw (rule_none_left task q (suc B) e) (none_left e)
    go rec (inr l) cell next = at (decided (is_final_cell task cell))
      where
        at : (is_final_cell task cell ≡ true) ⊎ (is_final_cell task cell ≡ false) → Passing task q (suc B) (rule_answer task q (suc B))
        at (inl e) = rw (rule_found task q cell (next l) B e) (final cell l (next l) e)
        at (inr e) = rw (rule_pass task q cell (next l) B e) (pass cell l (next l) e (rec l))

-- what such an answer says of the cells: found within the budget and the cells; finished with all that remained; spent with the budget,
-- where some remain
pub data Outcome (task : Task) (q B : ℕ) : Answer → Type 0 where
  as_found : (mapping : Mapping) (n : ℕ) → 0 < n → n ≤ B → q + n ≤ total task → Outcome task q B (found mapping n)
  as_finished : (n : ℕ) → n ≤ B → q + n ≡ total task → Outcome task q B (finished n)
  as_spent : (n : ℕ) → n ≡ B → q + n < total task → Outcome task q B (spent n)

module _ (task : Task) where
  more_outcome : {q B : ℕ} {answer : Answer} → Outcome task (suc q) B answer → Outcome task q (suc B) (more_cells 1 answer)
  more_outcome (as_found mapping n p h k) = as_found mapping (1 + n) (omega arith) (omega arith) (omega arith)
  more_outcome (as_finished n h e) = as_finished (1 + n) (omega arith) (omega arith)
  more_outcome (as_spent n e h) = as_spent (1 + n) (omega arith) (omega arith)

  pub outcome : {q B : ℕ} {answer : Answer} → Passing task q B answer → Outcome task q B answer
  outcome (none_left e) = as_finished 0 zero-le (omega arith)
  outcome (no_budget l) = as_spent 0 refl (omega arith)
  outcome (final {B = B} cell l next e) = as_found (mapping_of task cell) 1 (omega arith) (omega arith) (omega arith)
  outcome (pass cell l next e walk) = more_outcome (outcome walk)

  -- q stays at most h(h + 1)/2
  pub outcome_within : {q B : ℕ} {answer : Answer} → Outcome task q B answer → q + reported answer ≤ total task
  outcome_within (as_found mapping n p h k) = k
  outcome_within (as_finished n h e) = le_of_eq e
  outcome_within (as_spent n e h) = le_of_lt h

  -- ---- the mappings found

  one_more : {q B : ℕ} {answer : Answer} → Outcome task q B answer → reported (more_cells 1 answer) ≡ suc (reported answer)
  one_more (as_found mapping n p h k) = omega arith
  one_more (as_finished n h e) = omega arith
  one_more (as_spent n e h) = omega arith

  same_found : (answer : Answer) → handed_out (more_cells 1 answer ∷ []) ≡ handed_out (answer ∷ [])
  same_found (found mapping n) = refl
  same_found (finished n) = refl
  same_found (spent n) = refl
  same_found (refused n) = refl

  -- a step hands out the final mappings among the cells that it reports
  pub passing_list : {q B : ℕ} {answer : Answer} → Passing task q B answer
      → handed_out (answer ∷ []) ≡ finals_of task (take (reported answer) (drop q (cells_of task)))
  passing_list (none_left e) = refl
  passing_list (no_budget l) = refl
  passing_list (final cell l next e) = rw (next, e)
  passing_list (pass {answer = answer} cell l next e walk) =
      same_found answer
      ∙ passing_list walk
      ∙ rw (one_more (outcome walk), next, e)
