-- What words 1, 2 and 4 of a session hold, by the scoring.
use Rattle.std.specs.Prelude.{ℕ}
use Rattle.mappings.specs.declared.Scoring.{Scoring}
use Rattle.mappings.specs.declared.Scoring.TheVariants.{Linear, Jaccard}

-- word 1: u, or f
abbrev pub first_number : Scoring → ℕ
first_number (Linear u v threshold) = u
first_number (Jaccard f g) = f

-- word 2: v, or g
abbrev pub second_number : Scoring → ℕ
second_number (Linear u v threshold) = v
second_number (Jaccard f g) = g

-- word 4, the kind of score: 0 linear, 1 Jaccard
abbrev pub kind_number : Scoring → ℕ
kind_number (Linear u v threshold) = 0
kind_number (Jaccard f g) = 1
