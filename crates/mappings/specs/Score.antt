-- Intervals of the struck text, and their score: ESKEMAP's linear score with whole weights, or the weighted Jaccard.
use Rattle.std.specs.Prelude.{ℕ, suc, ◌+◌, ◌-◌, ◌*◌, ◌<◌, min, Bool, true, false, List, map, leb, length, ℤ, pos, ◌-ℤ◌}
use Rattle.std.proofs.Math.Seq.{slice}
use Rattle.std.specs.Int.Signed.{le_z, mag}
use Rattle.base.specs.Limits.{signed_limit}
use Rattle.base.specs.Lists.{sum}
use Rattle.base.specs.Counts.{occ, distinct}
use Rattle.mappings.specs.declared.Scoring.{Scoring}
use Rattle.mappings.specs.declared.Scoring.TheVariants.{Linear, Jaccard}
use Rattle.mappings.specs.declared.Score.{Score}
use Rattle.mappings.specs.declared.Score.TheVariants.{Number, Fraction}

-- what is mapped: the codes of the struck text t and of the pattern p, and the scoring: linear with the weights u and v and the threshold,
-- or Jaccard with the threshold f/g
pub record Task : Type 0 where
  pub text : List ℕ
  pub pattern : List ℕ
  pub scoring : Scoring

-- the task of these codes, scored so
abbrev pub task_with : List ℕ → List ℕ → Scoring → Task
task_with text pattern scoring = record { text = text; pattern = pattern; scoring = scoring }

-- [a, b]: the entries a to b, both included
unfoldable pub interval : List ℕ → ℕ → ℕ → List ℕ
interval t a b = slice a (suc b) t

-- m: the sum over all codes of the smaller of the counts in p and in s. A code that is not in p adds nothing, so the codes of
-- p are summed over, each once
unfoldable pub shared : List ℕ → List ℕ → ℕ
shared p s = sum (map (λ (y : ℕ). min (occ y p) (occ y s)) (distinct p))

-- d = len + |p| − 2m
unfoldable pub distance : ℕ → ℕ → ℕ → ℕ
distance len size m = len + size - 2 * m

-- u·m − v·d, signed
unfoldable pub linear : ℕ → ℕ → ℕ → ℕ → ℕ → ℤ
linear u v size m len = pos (u * m) -ℤ pos (v * distance len size m)

-- the divisor of the weighted Jaccard: len + |p| − m
unfoldable pub divisor : ℕ → ℕ → ℕ → ℕ
divisor len size m = len + size - m

-- the score of m and len, given |p|: linear, or the fraction m / (len + |p| − m) by its two numbers
abbrev pub scored : Scoring → ℕ → ℕ → ℕ → Score
scored (Linear u v threshold) size m len = Number (linear u v size m len)
scored (Jaccard f g) size m len = Fraction m (divisor len size m)

-- the least score that is enough
abbrev pub threshold_of : Scoring → Score
threshold_of (Linear u v threshold) = Number threshold
threshold_of (Jaccard f g) = Fraction f g

-- the order of scores, as a test: signed numbers as they are; fractions by cross products, with no rounding. The scores of a session are of
-- one kind; for the order to be total, a number is below each fraction
abbrev pub at_most : Score → Score → Bool
at_most (Number y) (Number z) = le_z y z
at_most (Number y) (Fraction m' d') = true
at_most (Fraction m d) (Number z) = false
at_most (Fraction m d) (Fraction m' d') = leb (m * d') (m' * d)

-- len of [a, b]
unfoldable pub length_of : ℕ → ℕ → ℕ
length_of a b = suc b - a

-- m of [a, b]
unfoldable pub shared_of : Task → ℕ → ℕ → ℕ
shared_of task a b = shared task.pattern (interval task.text a b)

-- the score of [a, b]
unfoldable pub score_of : Task → ℕ → ℕ → Score
score_of task a b = scored task.scoring (length task.pattern) (shared_of task a b) (length_of a b)

-- the threshold of a linear scoring is any signed 32-bit number
abbrev pub ThresholdFits : Scoring → Type 0
ThresholdFits (Linear u v threshold) = mag threshold < signed_limit
ThresholdFits (Jaccard f g) = Unit {0}
