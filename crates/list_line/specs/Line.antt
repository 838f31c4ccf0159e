-- The printed line: four numbers in decimal, the score and the strand; the part of the buffer that the line writer returns, and the buffer afterwards.
use Rattle.std.specs.Prelude.{ℕ, zero, suc, ◌/◌, ◌%◌, ◌≡◌, cond, List, [], ◌∷◌, ◌++◌, leb, ltb, length, ℤ, pos, negsuc}
use Rattle.base.specs.Replies.{over}
use Rattle.base.specs.Bytes.{space, line_feed, minus, plus, slash, digit}
use Rattle.mappings.specs.declared.Score.{Score}
use Rattle.mappings.specs.declared.Score.TheVariants.{Number, Fraction}
use Rattle.strands.specs.declared.Strand.{Strand}
use Rattle.strands.specs.declared.Strand.TheVariants.{Forward, Reverse}

-- the decimal digits of n, at most this many, in front of the bytes that follow: highest first, without leading zeros
abbrev pub digits_before : ℕ → ℕ → List ℕ → List ℕ
digits_before zero n rest = rest
digits_before (suc places) n rest = cond (ltb n 10) (digit n ∷ rest) (digits_before places (n / 10) (digit (n % 10) ∷ rest))

-- a number of 32 bits in decimal without leading zeros: at most ten digits
unfoldable pub decimal : ℕ → List ℕ
decimal n = digits_before 10 n []

-- a signed number, with a minus sign when negative
unfoldable pub signed : ℤ → List ℕ
signed (pos n) = decimal n
signed (negsuc n) = minus ∷ decimal (suc n)

-- a score: a signed number; or a fraction as m, a slash and the divisor, not reduced
unfoldable pub shown_score : Score → List ℕ
shown_score (Number z) = signed z
shown_score (Fraction m divisor) = decimal m ++ slash ∷ decimal divisor

-- the sign of a strand: + for the read as it is given, the minus sign for its reverse complement
abbrev pub sign : Strand → ℕ
sign Forward = plus
sign Reverse = minus

-- first letter, last letter, score, m, per mille, strand, one space between them and a line feed after
unfoldable pub line : ℕ → ℕ → Score → ℕ → ℕ → Strand → List ℕ
line first last score m per_mille strand =
    decimal first ++ space ∷ decimal last ++ space ∷ shown_score score ++ space ∷ decimal m ++ space ∷ decimal per_mille
    ++ space ∷ sign strand ∷ line_feed ∷ []

-- the part of the caller's buffer that is written, given the buffer's length: the empty part where these bytes are longer
unfoldable pub fitting : ℕ → List ℕ → List ℕ
fitting room bytes = cond (leb (length bytes) room) bytes []

-- the buffer before and after, and how many bytes were written from its start: all others keep their content
pub record LineWritten (bytes before after : List ℕ) (count : ℕ) : Type 0 where
  pub number : count ≡ length (fitting (length before) bytes)
  pub buffer : after ≡ over (fitting (length before) bytes) before
