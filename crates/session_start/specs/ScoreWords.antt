-- Scores as words, by the scoring: linear ones as numbers with a bias of 2^31, Jaccard ones as fractions.
use Rattle.std.specs.Prelude.{ℕ, zero, suc, Bool, true, false, length}
use Rattle.mappings.specs.declared.Scoring.{Scoring}
use Rattle.mappings.specs.declared.Scoring.TheVariants.{Linear, Jaccard}
use Rattle.mappings.specs.Score.{Task, divisor, length_of, shared_of}
use Rattle.mappings.specs.Bias.{biased, biased_z}
use Rattle.session_records.specs.Words.{fraction_word}

-- the score words are fractions
abbrev pub by_fractions : Scoring → Bool
by_fractions (Linear u v threshold) = false
by_fractions (Jaccard f g) = true

-- the score word of m and len, given |p|
abbrev pub score_word : Scoring → ℕ → ℕ → ℕ → ℕ
score_word (Linear u v threshold) size m len = biased u v size m len
score_word (Jaccard f g) size m len = fraction_word m (divisor len size m)

-- the word of the threshold: of f/g where f is 0, the least word
abbrev pub threshold_word : Scoring → ℕ
threshold_word (Linear u v threshold) = biased_z threshold
threshold_word (Jaccard zero g) = 0
threshold_word (Jaccard (suc f) g) = fraction_word (suc f) g

-- the score word of [a, b]
unfoldable pub score_word_of : Task → ℕ → ℕ → ℕ
score_word_of task a b = score_word task.scoring (length task.pattern) (shared_of task a b) (length_of a b)
