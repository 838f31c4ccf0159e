-- What the cells of a column of a task share: the line by which a session passes them.
use Rattle.std.specs.Prelude.{ℕ, ◌+◌, ◌-◌, ◌*◌, ◌%◌, length, get_or}
use Rattle.base.specs.Limits.{word_limit, weight_limit}
use Rattle.mappings.specs.declared.Scoring.{Scoring}
use Rattle.mappings.specs.declared.Scoring.TheVariants.{Linear, Jaccard}
use Rattle.mappings.specs.Score.{Task, interval, shared}
use Rattle.mappings.specs.Bias.{bias}
use Rattle.mappings.specs.Cells.{hits}
use Rattle.mappings.specs.HitCodes.{hit_codes}
use Rattle.session_records.specs.Words.{divisor_span}
use Rattle.session_start.specs.ScoreWords.{by_fractions}
use Rattle.session_start.specs.Tables.{back}
use Rattle.session_cells.specs.declared.cells.Line.{Line}

-- a multiple of 2^32, which words do not show, that is more than v·(b + 1 + |p|): v is at most 1,000, and b and |p| are words, whatever
-- they hold
abbrev pub margin : ℕ
margin = 2 * weight_limit * word_limit

-- The score word of m and of the index x of a left end is gain·m + loss·x + lift − loss·(b + 1 + |p|), but for multiples of 2^32, where b is
-- the index of the right end: for fractions too, since (m − 1)·2^21 + (2^21 − 1 − (b + 1 − x + |p| − m)) = (2^21 + 1)·m + x − (b + 1 + |p|) − 1
abbrev pub gain_of : Scoring → ℕ
gain_of (Linear u v threshold) = u + 2 * v
gain_of (Jaccard f g) = divisor_span + 1

abbrev pub loss_of : Scoring → ℕ
loss_of (Linear u v threshold) = v
loss_of (Jaccard f g) = 1

-- the margin is added, so that it does not fall below 0
abbrev pub lift_of : Scoring → ℕ
lift_of (Linear u v threshold) = margin + bias
lift_of (Jaccard f g) = margin - 1

-- the line of column j
abbrev pub session_line : Task → ℕ → Line
session_line task j = record {
  column = j;
  gain = gain_of task.scoring;
  v = loss_of task.scoring;
  base = (lift_of task.scoring - loss_of task.scoring * (get_or (hits task) j 0 + 1 + length task.pattern)) % word_limit;
  back = back task.pattern (hit_codes task) j;
  fractions = by_fractions task.scoring;
}

-- m of the hits i to j
abbrev pub shared_at : Task → ℕ → ℕ → ℕ
shared_at task i j = shared task.pattern (interval (hit_codes task) i j)
