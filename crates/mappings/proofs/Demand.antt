-- Demand 3 holds of the rule's answers, for any task and any list of steps from a fresh session.
use Prim.Native.Nat.{ℕ, suc, ◌+◌, ◌≤◌, ◌<◌, zero-le}
use native.Mathlib.Nat.{zero-add, le_of_eq}
use native.Mathlib.Omega.{arith}
use mathlib.Core.Path.{◌≡◌, ap, ◌∙◌}
use mathlib.Core.Logic.{◌↔◌}
use mathlib.Core.List.{List}
use lib.ListN.{length, take}
use lib.Seq.{take_all}
use Rattle.base.specs.Limits.{work_words}
use Rattle.mappings.specs.Score.{Task}
use Rattle.mappings.specs.Cells.{cells, cells_of, hit_count}
use Rattle.mappings.specs.Rule.{Answer, reported, Step, passed, handed_out}
use Rattle.mappings.specs.Steps.{step_answer, answers}
use Rattle.mappings.specs.Demand.{Found, Finished, step_at, answer_at, passed_before, Demanded}
use Rattle.mappings.proofs.Cells.{length_cells}
use Rattle.mappings.proofs.Rule.{total, finals_of}
use Rattle.mappings.proofs.Steps.{accepted_answer, refused_answer, step_refused, step_finished, answers_list, answers_within, length_answers}
use Rattle.mappings.proofs.Steps.{take_answers, answer_at_lem, passed_suc, answers_end}
use Rattle.mappings.proofs.Finals.{finals_among, finals_once, final_among}

-- all cells
pub take_all_cells : (task : Task) → take (total task) (cells_of task) ≡ cells_of task
unfolding cells_of
take_all_cells task = take_all (total task) (cells (hit_count task)) (le_of_eq (length_cells (hit_count task)))

module _ (task : Task) (steps : List Step) where
  -- the answers of the rule, from a fresh session
  abbrev given : List Answer
  given = answers task 0 steps

  fresh_list : (n : ℕ) → handed_out (take n given) ≡ finals_of task (take (passed_before given n) (cells_of task))
  fresh_list n = rw (take_answers task 0 n steps) (answers_list task 0 (take n steps) zero-le)

  fresh_within : (n : ℕ) → passed_before given n ≤ total task
  fresh_within n = rw (take_answers task 0 n steps) (omega (arith, answers_within task 0 (take n steps) zero-le))

  fresh_answer : (n : ℕ) → n < length steps → answer_at given n ≡ step_answer task (passed_before given n) (step_at steps n)
  fresh_answer n h = answer_at_lem task 0 n steps h ∙ ap (λ (k : ℕ). step_answer task k (step_at steps n)) (zero-add (passed_before given n))

  -- the q after step n
  fresh_suc : (n : ℕ) → n < length steps
      → passed_before given (suc n) ≡ passed_before given n + reported (step_answer task (passed_before given n) (step_at steps n))
  fresh_suc n h =
      passed_suc given n (rw (length_answers task 0 steps) h) ∙ ap (λ (answer : Answer). passed_before given n + reported answer) (fresh_answer n h)

  fresh_finished : (n : ℕ) → n < length steps
      → Finished (answer_at given n) ↔ ((work_words ≤ (step_at steps n).lent) × (¬ Found (answer_at given n)) × (passed_before given (suc n) ≡ total task))
  fresh_finished n h = rw (fresh_answer n h, fresh_suc n h) (step_finished task (passed_before given n) (fresh_within n) (step_at steps n))

  pub demand : Demanded task steps (answers task 0 steps)
  demand = record {
    answered = length_answers task 0 steps;
    within = omega (arith, answers_within task 0 steps zero-le);
    exact = rw (answers_list task 0 steps zero-le) (finals_among task (take (passed given) (cells_of task)));
    once = rw (answers_list task 0 steps zero-le) (finals_once task (passed given));
    refusals = λ n h. rw (fresh_answer n h) (step_refused task (passed_before given n) (fresh_within n) (step_at steps n));
    unmoved = λ n h l.
        (let none : reported (step_answer task (passed_before given n) (step_at steps n))
        ≡ 0 = ap reported (refused_answer task (passed_before given n) (step_at steps n) (omega arith)) in
        omega (arith, fresh_suc n h));
    by_rule = λ n h l. fresh_answer n h ∙ accepted_answer task (passed_before given n) (step_at steps n) l;
    finishes = fresh_finished;
    complete = λ n h f a b final. rw (fresh_list (suc n), ((fresh_finished n h).0 f).2, take_all_cells task) (final_among task a b final);
    ends = λ l. answers_end task 0 steps zero-le (omega arith);
  }
