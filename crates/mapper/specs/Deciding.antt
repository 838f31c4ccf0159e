-- The deciding test at a candidate: its score, from the scoring and the counts, against the threshold.
use Rattle.std.specs.Prelude.{ℕ, ◌-◌, Bool, cond, ◌&&◌, leb, ltb}
use Rattle.base.specs.Limits.{text_limit, weight_limit, divisor_limit, pattern_limit}
use Rattle.mappings.specs.declared.Score.{Score}
use Rattle.mappings.specs.declared.Scoring.{Scoring}
use Rattle.mappings.specs.declared.Scoring.TheVariants.{Linear, Jaccard}
use Rattle.mappings.specs.Score.{scored, threshold_of, at_most, length_of}
use Rattle.mapper.specs.declared.terms.Terms.{Terms}
use Rattle.mapper.specs.declared.answer.Stepped.{Stepped}
use Rattle.mapper.specs.declared.answer.Stepped.TheVariants.{Found, Spent}

-- the numbers of the scoring are at most those that start accepts
abbrev pub is_small : Scoring → Bool
is_small (Linear u v threshold) = leb u weight_limit && leb v weight_limit
is_small (Jaccard f g) = leb f divisor_limit && leb g divisor_limit

-- weights and counts are such as sessions have, so that the score of [a, b] fits 32 bits: m is at most len and at most |p|
unfoldable pub is_scorable : Terms → ℕ → ℕ → ℕ → Bool
is_scorable terms a b m =
    is_small terms.scoring
    && leb terms.size pattern_limit
    && leb a b
    && ltb (b - a) text_limit
    && leb m terms.size
    && leb m (length_of a b)

-- the score of [a, b] with this m
unfoldable pub candidate_score : Terms → ℕ → ℕ → ℕ → Score
candidate_score terms a b m = scored terms.scoring terms.size m (length_of a b)

-- it is at least the threshold
unfoldable pub decides : Terms → ℕ → ℕ → ℕ → Bool
decides terms a b m = is_scorable terms a b m && at_most (threshold_of terms.scoring) (candidate_score terms a b m)

-- what is answered: found with the score that decided, or no more than the cells passed
unfoldable pub decided : Terms → ℕ → ℕ → ℕ → ℕ → Stepped
decided terms a b m cells = cond (decides terms a b m) (Found a b (candidate_score terms a b m) m cells) (Spent cells)
