-- The rule of a step, and of a list of steps from a fresh session, refused ones included.
use Rattle.std.specs.Prelude.{ℕ, suc, ◌+◌, Bool, cond, not, List, [], ◌∷◌, eqb, ltb, take, drop}
use Rattle.base.specs.Limits.{work_words}
use Rattle.mappings.specs.Score.{Task}
use Rattle.mappings.specs.Cells.{Cell, Mapping, mapping_of, cells_of, hit_count, cell_count}
use Rattle.mappings.specs.FinalTest.{is_final_cell}

-- a step's answer: found with a, b, score, m and the cells passed in this step; finished or spent with the cells passed;
-- or refused with 01's number
pub data Answer : Type 0 where
  found : Mapping → ℕ → Answer
  finished : ℕ → Answer
  spent : ℕ → Answer
  refused : ℕ → Answer

-- the cells that an answer reports
abbrev pub reported : Answer → ℕ
reported (found mapping cells) = cells
reported (finished cells) = cells
reported (spent cells) = cells
reported (refused number) = 0

-- the cells that a step with budget B looks at: the next B after number q, or all that remain if they are fewer
unfoldable pub looked_at : Task → ℕ → ℕ → List Cell
looked_at task q B = take B (drop q (cells_of task))

-- the answer where n of the cells looked at were not final and these come next: found with the first final one, whose number counts on from n;
-- if none is, q grows by the cells looked at, and the answer is finished if it is now h(h + 1)/2, spent if not
abbrev pub answer_from : Task → ℕ → ℕ → List Cell → Answer
answer_from task q n [] = cond (eqb (q + n) (cell_count (hit_count task))) (finished n) (spent n)
answer_from task q n (cell ∷ rest) = let later = answer_from task q (suc n) rest in cond (is_final_cell task cell) (found (mapping_of task cell) (suc n)) later

-- the answer of an accepted step with budget B, where q cells have been passed
unfoldable pub rule_answer : Task → ℕ → ℕ → Answer
rule_answer task q B = answer_from task q 0 (looked_at task q B)

-- a step of a list: its budget, and how many of the work words it is lent
pub record Step : Type 0 where
  pub budget : ℕ
  pub lent : ℕ

unfoldable pub is_accepted : Step → Bool
is_accepted step = not (ltb step.lent work_words)

-- the sum of the cells reported
abbrev pub passed : List Answer → ℕ
passed [] = 0
passed (answer ∷ rest) = reported answer + passed rest

-- the mappings handed out are the found answers
abbrev pub handed_out : List Answer → List Mapping
handed_out [] = []
handed_out (found mapping cells ∷ rest) = mapping ∷ handed_out rest
handed_out (finished cells ∷ rest) = handed_out rest
handed_out (spent cells ∷ rest) = handed_out rest
handed_out (refused number ∷ rest) = handed_out rest
