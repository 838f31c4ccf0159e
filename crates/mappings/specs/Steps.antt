-- The answers of a whole list of steps by the rule, computed: what the proofs and the nine cases set beside the answers given.
use Rattle.std.specs.Prelude.{ℕ, ◌+◌, cond, List, [], ◌∷◌}
use Rattle.mappings.specs.Score.{Task}
use Rattle.mappings.specs.Rule.{Answer, found, finished, spent, refused, reported, rule_answer, Step, is_accepted}

-- a step is refused, with 10, exactly when it is lent fewer than 16,384 words
unfoldable pub step_answer : Task → ℕ → Step → Answer
step_answer task q step = cond (is_accepted step) (rule_answer task q step.budget) (refused 10)

-- the answers of a list of steps, where q cells have been passed before it: q grows by the cells reported
unfoldable pub answers : Task → ℕ → List Step → List Answer
answers task q [] = []
answers task q (step ∷ steps) = step_answer task q step ∷ answers task (q + reported (step_answer task q step)) steps

-- the answer, with n cells more reported
abbrev pub more_cells : ℕ → Answer → Answer
more_cells n (found mapping cells) = found mapping (n + cells)
more_cells n (finished cells) = finished (n + cells)
more_cells n (spent cells) = spent (n + cells)
more_cells n (refused number) = refused number
