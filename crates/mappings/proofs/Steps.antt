-- Lists of steps by the rule, from any number q of cells passed: what they hand out, how far they come, and that they finish.
use Prim.Native.Nat.{ℕ, zero, suc, ◌+◌, ◌≤◌, ◌<◌, suc-le-suc}
use native.Mathlib.Nat.{le_of_suc-le-suc, not-suc-le-zero, ne_of_lt, le-add_left, zero-lt-suc}
use native.Mathlib.Omega.{arith}
use mathlib.Core.Path.{◌≡◌, refl, sym, ap, ap₂, ◌∙◌}
use mathlib.Core.Logic.{◌⊎◌, inl, inr, ◌↔◌}
use mathlib.Core.Bool.{Bool, true, false, not}
use mathlib.Core.List.{List, [], ◌∷◌, ◌++◌, map}
use lib.Dec.{ltb}
use lib.ListN.{length, take, drop}
use lib.Seq.{take-add, drop-drop}
use borrow.Author.Tests.{lt-ltb, le-ltb, ltb-true, ltb-false, not-true}
use Rattle.base.specs.Lists.{add_if, keep}
use Rattle.base.proofs.Lists.{decided, and_left, and_right, keep_append, map_append}
use Rattle.base.specs.Limits.{work_words}
use Rattle.mappings.specs.Score.{Task}
use Rattle.mappings.specs.Cells.{Cell, mapping_of, cells_of}
use Rattle.mappings.specs.FinalTest.{is_final_cell}
use Rattle.mappings.specs.Rule.{Answer, found, finished, spent, refused, reported, rule_answer, Step, is_accepted, passed, handed_out}
use Rattle.mappings.specs.Steps.{step_answer, answers}
use Rattle.mappings.specs.Demand.{Found, Finished, HasFinished, step_at, answer_at, passed_before, is_ample}
use Rattle.mappings.proofs.Rule.{total, finals_of, Passing, passing, Outcome, as_found, as_finished, as_spent, outcome, outcome_within, passing_list}

-- ---- one step of a list

accepted_test : (step : Step) → work_words ≤ step.lent → is_accepted step ≡ true
unfolding is_accepted
accepted_test step h = ap not (le-ltb step.lent work_words h)

test_accepted : (step : Step) → is_accepted step ≡ true → work_words ≤ step.lent
unfolding is_accepted
test_accepted step e = ltb-false step.lent work_words (not-true (ltb step.lent work_words) e)

refused_test : (step : Step) → step.lent < work_words → is_accepted step ≡ false
unfolding is_accepted
refused_test step h = ap not (lt-ltb step.lent work_words h)

-- a step is lent enough words, or too few
pub data Lent (step : Step) : Type 0 where
  enough : work_words ≤ step.lent → Lent step
  too_few : step.lent < work_words → Lent step

pub lent : (step : Step) → Lent step
lent step = go (decided (ltb step.lent work_words))
  where
    go : (ltb step.lent work_words ≡ true) ⊎ (ltb step.lent work_words ≡ false) → Lent step
    go (inl e) = too_few (ltb-true step.lent work_words e)
    go (inr e) = enough (ltb-false step.lent work_words e)

pub accepted_answer : (task : Task) (q : ℕ) (step : Step) → work_words ≤ step.lent → step_answer task q step ≡ rule_answer task q step.budget
unfolding step_answer
accepted_answer task q step h = rw (accepted_test step h)

pub refused_answer : (task : Task) (q : ℕ) (step : Step) → step.lent < work_words → step_answer task q step ≡ refused 10
unfolding step_answer
refused_answer task q step h = rw (refused_test step h)

module _ (task : Task) (q : ℕ) (h : q ≤ total task) where
  -- an accepted step's answer
  accepted_passing : (step : Step) → work_words ≤ step.lent → Passing task q step.budget (step_answer task q step)
  accepted_passing step l = rw (accepted_answer task q step l) (passing task q step.budget h)

  step_within : (step : Step) → q + reported (step_answer task q step) ≤ total task
  step_within step = go (lent step)
    where
      go : Lent step → q + reported (step_answer task q step) ≤ total task
      go (enough l) = outcome_within task (outcome task (accepted_passing step l))
      go (too_few l) = rw (refused_answer task q step l) (omega arith)

  step_list : (step : Step) → handed_out (step_answer task q step ∷ []) ≡ finals_of task (take (reported (step_answer task q step)) (drop q (cells_of task)))
  step_list step = go (lent step)
    where
      go : Lent step → handed_out (step_answer task q step ∷ []) ≡ finals_of task (take (reported (step_answer task q step)) (drop q (cells_of task)))
      go (enough l) = passing_list task (accepted_passing step l)
      go (too_few l) = rw (refused_answer task q step l)

-- ---- a list of steps, from any number q of cells passed

handed_cons : (answer : Answer) (given : List Answer) → handed_out (answer ∷ given) ≡ handed_out (answer ∷ []) ++ handed_out given
handed_cons (found mapping n) given = refl
handed_cons (finished n) given = refl
handed_cons (spent n) given = refl
handed_cons (refused n) given = refl

-- the final mappings among the next n + k cells
finals_add : (task : Task) (q n k : ℕ)
    → finals_of task (take (n + k) (drop q (cells_of task)))
    ≡ finals_of task (take n (drop q (cells_of task))) ++ finals_of task (take k (drop (q + n) (cells_of task)))
finals_add task q n k =
    ap (finals_of task) (take-add n k (drop q (cells_of task)))
    ∙ ap (map (mapping_of task)) (keep_append (is_final_cell task) (take n (drop q (cells_of task))) (take k (drop n (drop q (cells_of task)))))
    ∙ map_append (mapping_of task) (keep (is_final_cell task) (take n (drop q (cells_of task))))
    (keep (is_final_cell task) (take k (drop n (drop q (cells_of task)))))
    ∙ ap (λ (l : List Cell). finals_of task (take n (drop q (cells_of task))) ++ finals_of task (take k l)) (drop-drop n q (cells_of task))

-- they hand out the final mappings among the next cells, as many as they report
pub answers_list : (task : Task) (q : ℕ) (steps : List Step) → q ≤ total task
    → handed_out (answers task q steps) ≡ finals_of task (take (passed (answers task q steps)) (drop q (cells_of task)))
unfolding answers
answers_list task q [] h = refl
answers_list task q (step ∷ steps) h =
    let r : ℕ = reported (step_answer task q step) in
    let given : List Answer = answers task (q + r) steps in
    handed_cons (step_answer task q step) given
    ∙ ap₂ ◌++◌ (step_list task q h step) (answers_list task (q + r) steps (step_within task q h step))
    ∙ sym (finals_add task q r (passed given))

pub answers_within : (task : Task) (q : ℕ) (steps : List Step) → q ≤ total task → q + passed (answers task q steps) ≤ total task
unfolding answers
answers_within task q [] h = omega arith
answers_within task q (step ∷ steps) h =
    let r : ℕ = reported (step_answer task q step) in
    let given : List Answer = answers task (q + r) steps in
    let i : q + r + passed given ≤ total task = answers_within task (q + r) steps (step_within task q h step) in
    omega arith

pub length_answers : (task : Task) (q : ℕ) (steps : List Step) → length (answers task q steps) ≡ length steps
unfolding answers
length_answers task q [] = refl
length_answers task q (step ∷ steps) = ap suc (length_answers task (q + reported (step_answer task q step)) steps)

-- the first answers are those of the first steps
pub take_answers : (task : Task) (q n : ℕ) (steps : List Step) → take n (answers task q steps) ≡ answers task q (take n steps)
unfolding answers
take_answers task q zero steps = refl
take_answers task q (suc n) [] = refl
take_answers task q (suc n) (step ∷ steps) =
    ap (λ (l : List Answer). step_answer task q step ∷ l) (take_answers task (q + reported (step_answer task q step)) n steps)

-- each answer is the step's, from the q before it
pub answer_at_lem : (task : Task) (q n : ℕ) (steps : List Step) → n < length steps
    → answer_at (answers task q steps) n ≡ step_answer task (q + passed_before (answers task q steps) n) (step_at steps n)
unfolding answers
answer_at_lem task q n [] h = absurd (not-suc-le-zero h)
answer_at_lem task q zero (step ∷ steps) h = ap (λ (k : ℕ). step_answer task k step) (omega arith)
answer_at_lem task q (suc n) (step ∷ steps) h =
    let r : ℕ = reported (step_answer task q step) in
    answer_at_lem task (q + r) n steps (le_of_suc-le-suc h)
    ∙ ap (λ (k : ℕ). step_answer task k (step_at steps n)) (omega arith)

-- the q after a step is the q before it and what it reports
pub passed_suc : (given : List Answer) (n : ℕ) → n < length given → passed_before given (suc n) ≡ passed_before given n + reported (answer_at given n)
passed_suc [] n h = absurd (not-suc-le-zero h)
passed_suc (answer ∷ given) zero h = omega arith
passed_suc (answer ∷ given) (suc n) h =
    let r : passed_before given (suc n) ≡ passed_before given n + reported (answer_at given n) = passed_suc given n (le_of_suc-le-suc h) in omega arith

-- ---- finished

never_both : (answer : Answer) → Found answer → Finished answer → ⊥
never_both answer f g = let clash : ◌≡◌ {A = ℕ} 0 1 = cc (f.2, g.1) in omega arith

not_finished_spent : (n : ℕ) → Finished (spent n) → ⊥
not_finished_spent n g = let clash : ◌≡◌ {A = ℕ} 0 1 = cc g.1 in omega arith

not_finished_refused : (n : ℕ) → Finished (refused n) → ⊥
not_finished_refused n g = let clash : ◌≡◌ {A = ℕ} 0 1 = cc g.1 in omega arith

finished_then : (task : Task) {q B : ℕ} {answer : Answer} → Outcome task q B answer → Finished answer → q + reported answer ≡ total task
finished_then task (as_found mapping n p h k) g = absurd (never_both (found mapping n) (mapping, n, refl) g)
finished_then task (as_finished n h e) g = e
finished_then task (as_spent n e h) g = absurd (not_finished_spent n g)

then_finished : (task : Task) {q B : ℕ} {answer : Answer} → Outcome task q B answer → ¬ Found answer → q + reported answer ≡ total task
    → Finished answer
then_finished task (as_found mapping n p h k) f e = absurd (f (mapping, n, refl))
then_finished task (as_finished n h e') f e = (n, refl)
then_finished task (as_spent n e' h) f e = absurd (ne_of_lt h e)

never_refused : (task : Task) {q B n : ℕ} → Outcome task q B (refused n) → ⊥
never_refused task o = elim o [ ]

module _ (task : Task) (q : ℕ) (h : q ≤ total task) (step : Step) where
  -- refused, with 10, exactly when lent too few words
  pub step_refused : (step_answer task q step ≡ refused 10) ↔ (step.lent < work_words)
  step_refused = (λ e. go e (lent step), refused_answer task q step)
    where
      go : step_answer task q step ≡ refused 10 → Lent step → step.lent < work_words
      go e (enough l) = absurd (never_refused task (rw e at (outcome task (accepted_passing task q h step l))))
      go e (too_few l) = l

  -- finished exactly when accepted, nothing found and no cell left
  pub step_finished : Finished (step_answer task q step) ↔
      ((work_words ≤ step.lent) × (¬ Found (step_answer task q step)) × (q + reported (step_answer task q step) ≡ total task))
  step_finished = (
    λ f. go f (lent step),
    λ all. then_finished task (outcome task (accepted_passing task q h step all.0)) all.1 all.2,
  )
    where
      go : Finished (step_answer task q step) → Lent step
          → (work_words ≤ step.lent) × (¬ Found (step_answer task q step)) × (q + reported (step_answer task q step) ≡ total task)
      go f (enough l) = (l, λ g. never_both (step_answer task q step) g f, finished_then task (outcome task (accepted_passing task q h step l)) f)
      go f (too_few l) = absurd (not_finished_refused 10 (rw (refused_answer task q step l) at f))

-- a step of budget 1 or more finishes or passes a cell
progress : (task : Task) {q B : ℕ} {answer : Answer} → 0 < B → Outcome task q B answer → Finished answer ⊎ (0 < reported answer)
progress task l (as_found mapping n p h k) = inr p
progress task l (as_finished n h e) = inl (n, refl)
progress task l (as_spent n e h) = inr (omega arith)

step_progress : (task : Task) (q : ℕ) → q ≤ total task → (step : Step) (steps : List Step)
    → Finished (step_answer task q step) ⊎ (length (keep is_ample (step ∷ steps)) ≤ reported (step_answer task q step) + length (keep is_ample steps))
unfolding is_ample
step_progress task q h step steps = go (decided (is_ample step))
  where
    counted : {b : Bool} → b ≡ true → length (add_if b step (keep is_ample steps)) ≡ suc (length (keep is_ample steps))
    counted e = rw e

    ample : Finished (step_answer task q step) ⊎ (0 < reported (step_answer task q step)) → is_ample step ≡ true
        → Finished (step_answer task q step) ⊎ (length (keep is_ample (step ∷ steps)) ≤ reported (step_answer task q step) + length (keep is_ample steps))
    ample (inl f) e = inl f
    ample (inr l) e = inr (omega (arith, counted e))

    go : (is_ample step ≡ true) ⊎ (is_ample step ≡ false)
        → Finished (step_answer task q step) ⊎ (length (keep is_ample (step ∷ steps)) ≤ reported (step_answer task q step) + length (keep is_ample steps))
    go (inl e) =
        let accepted : is_accepted step ≡ true = and_left (is_accepted step) (ltb 0 step.budget) e in
        let budgeted : 0 < step.budget = ltb-true 0 step.budget (and_right (is_accepted step) (ltb 0 step.budget) e) in
        ample (progress task budgeted (outcome task (accepted_passing task q h step (test_accepted step accepted)))) e
    go (inr e) = inr (rw e (le-add_left (length (keep is_ample steps)) (reported (step_answer task q step))))

-- after more such steps than cells remain, finished has been answered
pub answers_end : (task : Task) (q : ℕ) (steps : List Step) → q ≤ total task → total task < q + length (keep is_ample steps)
    → HasFinished steps (answers task q steps)
unfolding answers
answers_end task q [] h l = absurd (omega arith)
answers_end task q (step ∷ steps) h l =
    go (step_progress task q h step steps) (answers_end task (q + reported (step_answer task q step)) steps (step_within task q h step))
  where
    later : ℕ
    later = q + reported (step_answer task q step)

    go : Finished (step_answer task q step) ⊎ (length (keep is_ample (step ∷ steps)) ≤ reported (step_answer task q step) + length (keep is_ample steps))
        → (total task < later + length (keep is_ample steps) → HasFinished steps (answers task later steps))
        → HasFinished (step ∷ steps) (answers task q (step ∷ steps))
    go (inl f) rec = (0, zero-lt-suc (length steps), f)
    go (inr k) rec = let r = rec (omega arith) in (suc r.0, suc-le-suc r.1, r.2)
