-- Demand 3: one claim about a whole list of steps from a fresh session, over the answers that the steps gave.
use Rattle.std.specs.Prelude.{ℕ, suc, ◌+◌, ◌≤◌, ◌<◌, Bool, ◌&&◌, ◌≡◌, ◌↔◌, ltb, length, get_or, take}
use mathlib.Core.List.{List, [], ◌∷◌, Memᴰ}
use Rattle.base.specs.Lists.{keep}
use Rattle.base.specs.Limits.{work_words}
use Rattle.mappings.specs.Score.{Task}
use Rattle.mappings.specs.Definition1.{Final}
use Rattle.mappings.specs.Cells.{Cell, Mapping, mapping_of, cells_of, hit_count, cell_count, left_end, right_end}
use Rattle.mappings.specs.Rule.{Answer, found, finished, refused, rule_answer, Step, is_accepted, passed, handed_out}

-- cell (i, j) is final when [i, j] is
abbrev pub FinalCell : Task → Cell → Type 0
FinalCell task cell = Final task (left_end task cell) (right_end task cell)

-- these mappings are exactly the final ones among these cells, in the cells' order, each with its a, b, score and m
pub data FinalsAmong (task : Task) : List Cell → List Mapping → Type 0 where
  no_cells : FinalsAmong task [] []
  with_final : {cell : Cell} {cells : List Cell} {mappings : List Mapping} → FinalCell task cell → FinalsAmong task cells mappings
      → FinalsAmong task (cell ∷ cells) (mapping_of task cell ∷ mappings)
  without : {cell : Cell} {cells : List Cell} {mappings : List Mapping} → ¬ FinalCell task cell → FinalsAmong task cells mappings
      → FinalsAmong task (cell ∷ cells) mappings

-- no two of these mappings have the same a and the same b
abbrev pub EachOnce : List Mapping → Type 0
EachOnce [] = Unit {0}
EachOnce (mapping ∷ rest) = ((other : Mapping) → Memᴰ other rest → ¬ ((mapping.a ≡ other.a) × (mapping.b ≡ other.b))) × EachOnce rest

abbrev pub Found : Answer → Type 0
Found answer = (mapping : Mapping) × (cells : ℕ) × (answer ≡ found mapping cells)

abbrev pub Finished : Answer → Type 0
Finished answer = (cells : ℕ) × (answer ≡ finished cells)

-- step number n of a list, from 0, and its answer
abbrev pub step_at : List Step → ℕ → Step
step_at steps n = get_or steps n (record { budget = 0; lent = 0 })

abbrev pub answer_at : List Answer → ℕ → Answer
answer_at given n = get_or given n (refused 0)

-- some step of the list answered finished
abbrev pub HasFinished : List Step → List Answer → Type 0
HasFinished steps given = (n : ℕ) × (n < length steps) × Finished (answer_at given n)

-- q before step number n: the cells reported by the steps before it
abbrev pub passed_before : List Answer → ℕ → ℕ
passed_before given n = passed (take n given)

-- accepted, with a budget of at least 1
unfoldable pub is_ample : Step → Bool
is_ample step = is_accepted step && ltb 0 step.budget

-- a mapping of [a, b] is among these
abbrev pub Among : List Mapping → ℕ → ℕ → Type 0
Among mappings a b = (mapping : Mapping) × Memᴰ mapping mappings × (mapping.a ≡ a) × (mapping.b ≡ b)

-- what is demanded of the answers that a list of steps from a fresh session gave
pub record Demanded (task : Task) (steps : List Step) (given : List Answer) : Type 0 where
  -- an answer for each step
  pub answered : length given ≡ length steps
  -- q, the sum of the cells reported, stays among the h(h + 1)/2 cells
  pub within : passed given ≤ cell_count (hit_count task)
  -- after the list, the mappings handed out are exactly those final mappings that stand among the first q cells; they come in
  -- this order, with score and m
  pub exact : FinalsAmong task (take (passed given) (cells_of task)) (handed_out given)
  -- each once
  pub once : EachOnce (handed_out given)
  -- a step is refused, with 10, exactly when it is lent fewer than 16,384 of the work words
  pub refusals : (n : ℕ) → n < length steps → (answer_at given n ≡ refused 10) ↔ ((step_at steps n).lent < work_words)
  -- it then reports no cells
  pub unmoved : (n : ℕ) → n < length steps → (step_at steps n).lent < work_words → passed_before given (suc n) ≡ passed_before given n
  -- each accepted step's answer, its cells included, is the one that the rule gives for its budget and the q before it
  pub by_rule : (n : ℕ) → n < length steps → work_words ≤ (step_at steps n).lent
      → answer_at given n ≡ rule_answer task (passed_before given n) (step_at steps n).budget
  -- a step answers finished exactly when it is accepted, finds nothing and leaves q at h(h + 1)/2
  pub finishes : (n : ℕ) → n < length steps → Finished (answer_at given n)
      ↔ ((work_words ≤ (step_at steps n).lent) × (¬ Found (answer_at given n)) × (passed_before given (suc n) ≡ cell_count (hit_count task)))
  -- then no final mapping is missing: each has been handed out by that step or one before it
  pub complete : (n : ℕ) → n < length steps → Finished (answer_at given n) → (a b : ℕ) → Final task a b
      → Among (handed_out (take (suc n) given)) a b
  -- once h(h + 1)/2 + 1 accepted steps have had budgets of at least 1, finished has been answered
  pub ends : cell_count (hit_count task) + 1 ≤ length (keep is_ample steps) → HasFinished steps given
