-- What step promises: its answer and every lent word afterwards.
use Rattle.std.specs.Prelude.{ℕ, ◌+◌, ◌≤◌, true, false, ◌≡◌, ◌⊎◌, List, [], ◌∷◌, length, drop, Result}
use Rattle.base.specs.Replies.{accepted}
use Rattle.base.specs.Limits.{work_words}
use Rattle.base.specs.declared.refusal.Refusal.{Refusal}
use Rattle.mappings.specs.Score.{Task, ThresholdFits}
use Rattle.mappings.specs.Cells.{hit_count, cell_count}
use Rattle.mappings.specs.Rule.{refused, reported, rule_answer}
use Rattle.session_start.specs.Start.{start_reply}
use Rattle.session_start.specs.WorkWords.{session_words}
use Rattle.mapper.specs.Step.{too_few_words, bad_words}
use Rattle.mapper.specs.Answers.{answer_of}
use Rattle.mapper.specs.declared.answer.Stepped.{Stepped}

-- start accepts the task with these work words. A linear threshold is any signed 32-bit number
pub record Accepts (task : Task) (before : List ℕ) : Type 0 where
  pub accepts : start_reply task (length before) ≡ accepted (hit_count task ∷ [])
  pub threshold_fits : ThresholdFits task.scoring

-- the words before a step and its budget, its answer and the words after it
pub record StepPromise (work : List ℕ) (budget : ℕ) (answer : Result Stepped Refusal) (after : List ℕ) : Type 0 where
  -- fewer than 16,384 work words: 10, and nothing changes
  pub few : too_few_words work ≡ true → (answer_of answer ≡ refused 10) × (after ≡ work)
  -- words 0 to 4 as 15 says: 15, and nothing changes
  pub bad : too_few_words work ≡ false → bad_words work ≡ true → (answer_of answer ≡ refused 15) × (after ≡ work)
  -- the words of a session after q cells: the rule's answer, and the words after the q that the rule gives
  pub session : (task : Task) (before : List ℕ) (q : ℕ) → Accepts task before → q ≤ cell_count (hit_count task)
      → work ≡ session_words task before q
      → (answer_of answer ≡ rule_answer task q budget) × (after ≡ session_words task before (q + reported (rule_answer task q budget)))
  -- any words: no other number refuses, and it keeps within the first 16,384 of them
  pub refusals : (n : ℕ) → answer_of answer ≡ refused n → (n ≡ 10) ⊎ (n ≡ 15)
  pub number : length after ≡ length work
  pub beyond : drop work_words after ≡ drop work_words work
