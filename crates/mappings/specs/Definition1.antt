-- ESKEMAP's Definition 1 as document 01 states it.
use Rattle.std.specs.Prelude.{ℕ, ◌≤◌, ◌<◌, true, ◌≡◌, length, get_or}
use Rattle.base.specs.Counts.{occ}
use Rattle.mappings.specs.declared.Score.{Score}
use Rattle.mappings.specs.Score.{Task, interval, score_of, threshold_of, at_most}

-- t[i] occurs in [a, b] at most as often as in p
unfoldable pub Reasonable : Task → ℕ → ℕ → ℕ → Type 0
Reasonable task a b i = occ (get_or task.text i 0) (interval task.text a b) ≤ occ (get_or task.text i 0) task.pattern

-- the order of scores, by the test that computes
unfoldable pub AtMost : Score → Score → Type 0
AtMost y z = at_most y z ≡ true

-- [a, b] is final. The interval [c, d] that contains it is any: it need not itself be reasonable or end on a hit
pub record Final (task : Task) (a b : ℕ) : Type 0 where
  pub ordered : a ≤ b
  pub within : b < length task.text
  pub enough : AtMost (threshold_of task.scoring) (score_of task a b)
  pub left : Reasonable task a b a
  pub right : Reasonable task a b b
  pub maximal : (c d : ℕ) → c ≤ a → b ≤ d → d < length task.text → AtMost (score_of task c d) (score_of task a b)
