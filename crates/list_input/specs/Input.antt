-- The three lines that `maplist` reads, and what is malformed.
use Rattle.std.specs.Prelude.{ℕ, ◌+◌, ◌*◌, ◌-◌, Bool, true, false, cond, not, ◌&&◌, ◌||◌, List, [], ◌∷◌, leb, ltb, eqb, length, get_or, ℤ, pos, neg_ℤ}
use Rattle.base.specs.Lists.{every, parts_between}
use Rattle.base.specs.Limits.{line_limit, word_limit, signed_limit}
use Rattle.base.specs.Bytes.{as_bytes, space, line_feed, minus, digit}
use Rattle.mappings.specs.declared.Scoring.{Scoring}
use Rattle.mappings.specs.declared.Scoring.TheVariants.{Linear, Jaccard}
use Rattle.requests.specs.declared.Settings.{Settings}

-- so many bytes of the input decide: a first line has at most 66 (five numbers of ten digits, one of eleven with its minus, five
-- spaces; the word `jaccard` is shorter), two lines have as many letters as a line may have, and three line feeds end them
abbrev pub input_limit : ℕ
input_limit = 66 + 2 * line_limit + 3

abbrev pub is_digit : ℕ → Bool
is_digit b = leb (digit 0) b && leb b (digit 9)

-- the number with these decimal digits behind the ones of n
abbrev pub decimal_value : ℕ → List ℕ → ℕ
decimal_value n [] = n
decimal_value n (b ∷ bs) = decimal_value (10 * n + (b - digit 0)) bs

-- decimal digits, at least one, without leading zeros
abbrev pub is_decimal : List ℕ → Bool
is_decimal [] = false
is_decimal (b ∷ []) = is_digit b
is_decimal (b ∷ c ∷ bs) = not (eqb b (digit 0)) && every is_digit (b ∷ c ∷ bs)

-- a number of 32 bits
unfoldable pub is_unsigned : List ℕ → Bool
is_unsigned bs = is_decimal bs && ltb (decimal_value 0 bs) word_limit

-- a signed number of 32 bits: a minus only before one below 0
unfoldable pub is_signed : List ℕ → Bool
is_signed [] = false
is_signed (b ∷ bs) =
    cond (eqb b minus)
    (is_decimal bs && ltb 0 (decimal_value 0 bs) && leb (decimal_value 0 bs) signed_limit)
    (is_decimal (b ∷ bs) && ltb (decimal_value 0 (b ∷ bs)) signed_limit)

unfoldable pub signed_value : List ℕ → ℤ
signed_value [] = pos 0
signed_value (b ∷ bs) = cond (eqb b minus) (neg_ℤ (pos (decimal_value 0 bs))) (pos (decimal_value 0 (b ∷ bs)))

-- the same bytes in the same order
abbrev pub same_bytes : List ℕ → List ℕ → Bool
same_bytes [] [] = true
same_bytes [] (y ∷ ys) = false
same_bytes (x ∷ xs) [] = false
same_bytes (x ∷ xs) (y ∷ ys) = eqb x y && same_bytes xs ys

-- the word that stands in the threshold's place and asks for the weighted Jaccard
abbrev pub jaccard_word : List ℕ
jaccard_word = as_bytes "jaccard"

-- that word exactly
unfoldable pub is_jaccard : List ℕ → Bool
is_jaccard bs = same_bytes bs jaccard_word

-- what the last field of a first line may be
abbrev pub is_last_field : List ℕ → Bool
is_last_field bs = is_jaccard bs || is_signed bs

-- how mappings are scored, from the fourth and fifth number and the last field: f and g before the word, else u and v before the threshold
unfoldable pub scoring_of : ℕ → ℕ → List ℕ → Scoring
scoring_of fourth fifth bs = cond (is_jaccard bs) (Jaccard fourth fifth) (Linear fourth fifth (signed_value bs))

-- the parts of the bytes between line feeds: each but the last is a line, which ends in its line feed
unfoldable pub lines : List ℕ → List (List ℕ)
lines bytes = parts_between (λ (b : ℕ). eqb b line_feed) bytes

-- the parts of a line between single spaces
unfoldable pub fields : List ℕ → List (List ℕ)
fields bytes = parts_between (λ (b : ℕ). eqb b space) bytes

-- a first line `k w c u v threshold` or `k w c f g jaccard`
unfoldable pub is_first_line : List (List ℕ) → Bool
is_first_line fs =
    eqb (length fs) 6
    && is_unsigned (get_or fs 0 [])
    && is_unsigned (get_or fs 1 [])
    && is_unsigned (get_or fs 2 [])
    && is_unsigned (get_or fs 3 [])
    && is_unsigned (get_or fs 4 [])
    && is_last_field (get_or fs 5 [])

-- three lines, of which the first is well formed and the text line and the read line are not too long
unfoldable pub is_well_formed : List (List ℕ) → Bool
is_well_formed ls =
    leb 4 (length ls)
    && is_first_line (fields (get_or ls 0 []))
    && leb (length (get_or ls 1 [])) line_limit
    && leb (length (get_or ls 2 [])) line_limit

-- what the first line asks for
unfoldable pub settings_of : List (List ℕ) → Settings
settings_of fs = record {
  k = decimal_value 0 (get_or fs 0 []);
  w = decimal_value 0 (get_or fs 1 []);
  c = decimal_value 0 (get_or fs 2 []);
  scoring = scoring_of (decimal_value 0 (get_or fs 3 [])) (decimal_value 0 (get_or fs 4 [])) (get_or fs 5 []);
}

-- the settings, the text and the read; or what `maplist` refuses as input
pub data Input : Type 0 where
  malformed : Input
  given : Settings → List ℕ → List ℕ → Input

-- what stands in the bytes of standard input: what follows the third line is ignored
unfoldable pub input_of : List ℕ → Input
input_of bytes =
    cond (is_well_formed (lines bytes))
    (given (settings_of (fields (get_or (lines bytes) 0 []))) (get_or (lines bytes) 1 []) (get_or (lines bytes) 2 []))
    malformed
