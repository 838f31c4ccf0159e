-- Examples of inputs, among them document 01's: each is computed from the definitions.
use Prim.Native.Nat.{ℕ}
use mathlib.Core.Path.{◌≡◌, refl}
use mathlib.Core.List.{List, [], ◌∷◌, ◌++◌}
use lib.ListN.{replicate}
use lib.IntN.{ℤ, pos, negsuc}
use Rattle.base.specs.Bytes.{as_bytes, space, line_feed}
use Rattle.mappings.specs.declared.Scoring.{Scoring}
use Rattle.mappings.specs.declared.Scoring.TheVariants.{Linear, Jaccard}
use Rattle.list_input.specs.Input.{Input, malformed, given, input_of}
use Rattle.list_input.proofs.Compute.{list_input_computes}

-- the lines ACAG and ACG behind a first line
abbrev behind : List ℕ → List ℕ
behind first = first ++ line_feed ∷ 65 ∷ 67 ∷ 65 ∷ 71 ∷ line_feed ∷ 65 ∷ 67 ∷ 71 ∷ line_feed ∷ []

-- the first line `1 1 100 1 1 ` with this threshold, and `1 ` .. with this k
abbrev with_threshold : List ℕ → List ℕ
with_threshold t = (49 ∷ space ∷ 49 ∷ space ∷ 49 ∷ 48 ∷ 48 ∷ space ∷ 49 ∷ space ∷ 49 ∷ space ∷ []) ++ t

abbrev with_k : List ℕ → List ℕ
with_k k = k ++ space ∷ 49 ∷ space ∷ 49 ∷ 48 ∷ 48 ∷ space ∷ 49 ∷ space ∷ 49 ∷ space ∷ 49 ∷ []

abbrev scored_by : ℕ → Scoring → Input
scored_by k scoring = given (record { k = k; w = 1; c = 100; scoring = scoring }) (65 ∷ 67 ∷ 65 ∷ 71 ∷ []) (65 ∷ 67 ∷ 71 ∷ [])

abbrev read_with : ℕ → ℤ → Input
read_with k threshold = scored_by k (Linear 1 1 threshold)

-- document 01's example, also with bytes behind the third line and without the last line feed; thresholds −2147483648, −2147483649, −0
-- and 2147483648; k 4294967295, 4294967296, 01, −1 and none
pub record InputCases : Type 0 where
  pub example : input_of (behind (with_threshold (49 ∷ []))) ≡ read_with 1 (pos 1)
  pub more : input_of (behind (with_threshold (49 ∷ [])) ++ 65 ∷ line_feed ∷ []) ≡ read_with 1 (pos 1)
  pub unended : input_of (with_threshold (49 ∷ line_feed ∷ 65 ∷ line_feed ∷ 65 ∷ [])) ≡ malformed
  pub lowest : input_of (behind (with_threshold (45 ∷ 50 ∷ 49 ∷ 52 ∷ 55 ∷ 52 ∷ 56 ∷ 51 ∷ 54 ∷ 52 ∷ 56 ∷ [])))
      ≡ read_with 1 (negsuc 2147483647)
  pub lower : input_of (behind (with_threshold (45 ∷ 50 ∷ 49 ∷ 52 ∷ 55 ∷ 52 ∷ 56 ∷ 51 ∷ 54 ∷ 52 ∷ 57 ∷ []))) ≡ malformed
  pub minus_zero : input_of (behind (with_threshold (45 ∷ 48 ∷ []))) ≡ malformed
  pub higher : input_of (behind (with_threshold (50 ∷ 49 ∷ 52 ∷ 55 ∷ 52 ∷ 56 ∷ 51 ∷ 54 ∷ 52 ∷ 56 ∷ []))) ≡ malformed
  pub bits32 : input_of (behind (with_k (52 ∷ 50 ∷ 57 ∷ 52 ∷ 57 ∷ 54 ∷ 55 ∷ 50 ∷ 57 ∷ 53 ∷ []))) ≡ read_with 4294967295 (pos 1)
  pub bits33 : input_of (behind (with_k (52 ∷ 50 ∷ 57 ∷ 52 ∷ 57 ∷ 54 ∷ 55 ∷ 50 ∷ 57 ∷ 54 ∷ []))) ≡ malformed
  pub leading_zero : input_of (behind (with_k (48 ∷ 49 ∷ []))) ≡ malformed
  pub signed_k : input_of (behind (with_k (45 ∷ 49 ∷ []))) ≡ malformed
  pub none : input_of (behind (with_k [])) ≡ malformed

pub input_cases : InputCases
unfolding list_input_computes
input_cases =
    record {
      example = refl;
      more = refl;
      unended = refl;
      lowest = refl;
      lower = refl;
      minus_zero = refl;
      higher = refl;
      bits32 = refl;
      bits33 = refl;
      leading_zero = refl;
      signed_k = refl;
      none = refl;
    }

-- the word in the threshold's place, behind the fraction 3/4, and behind numbers of 32 bits that no session takes. Malformed: the word with a capital,
-- with a space behind it, a letter short, a letter longer, behind a minus, or one field early; and an empty last field
pub record WordCases : Type 0 where
  pub word : input_of (behind (as_bytes "1 1 100 3 4 jaccard")) ≡ scored_by 1 (Jaccard 3 4)
  pub any_fraction : input_of (behind (as_bytes "1 1 100 0 4294967295 jaccard")) ≡ scored_by 1 (Jaccard 0 4294967295)
  pub capital : input_of (behind (as_bytes "1 1 100 3 4 Jaccard")) ≡ malformed
  pub space_behind : input_of (behind (as_bytes "1 1 100 3 4 jaccard ")) ≡ malformed
  pub short : input_of (behind (as_bytes "1 1 100 3 4 jaccar")) ≡ malformed
  pub longer : input_of (behind (as_bytes "1 1 100 3 4 jaccards")) ≡ malformed
  pub signed : input_of (behind (as_bytes "1 1 100 3 4 -jaccard")) ≡ malformed
  pub empty : input_of (behind (as_bytes "1 1 100 3 4 ")) ≡ malformed
  pub early : input_of (behind (as_bytes "1 1 100 3 jaccard 4")) ≡ malformed

pub word_cases : WordCases
unfolding list_input_computes
word_cases =
    record {
      word = refl;
      any_fraction = refl;
      capital = refl;
      space_behind = refl;
      short = refl;
      longer = refl;
      signed = refl;
      empty = refl;
      early = refl;
    }

-- the first line of document 01's example, and a text line and a read line of so many letters A
abbrev with_letters : ℕ → ℕ → List ℕ
with_letters text read = with_threshold (49 ∷ line_feed ∷ []) ++ replicate text 65 ++ line_feed ∷ replicate read 65 ++ line_feed ∷ []

-- refused input: two spaces between numbers, one before the first or behind the last; five or seven numbers; no line; two lines; a
-- text line or a read line of 4,097 letters. With 4,096 letters both are read
pub record InputRefusals : Type 0 where
  pub two_spaces : input_of (behind (with_threshold (space ∷ 49 ∷ []))) ≡ malformed
  pub space_before : input_of (behind (space ∷ with_threshold (49 ∷ []))) ≡ malformed
  pub space_behind : input_of (behind (with_threshold (49 ∷ space ∷ []))) ≡ malformed
  pub five : input_of (behind (49 ∷ space ∷ 49 ∷ space ∷ 49 ∷ space ∷ 49 ∷ space ∷ 49 ∷ [])) ≡ malformed
  pub seven : input_of (behind (with_threshold (49 ∷ space ∷ 49 ∷ []))) ≡ malformed
  pub no_line : input_of [] ≡ malformed
  pub two_lines : input_of (with_threshold (49 ∷ line_feed ∷ 65 ∷ line_feed ∷ [])) ≡ malformed
  pub text_long : input_of (with_letters 4097 1) ≡ malformed
  pub read_long : input_of (with_letters 1 4097) ≡ malformed
  pub longest : input_of (with_letters 4096 4096)
      ≡ given (record { k = 1; w = 1; c = 100; scoring = Linear 1 1 (pos 1) }) (replicate 4096 65) (replicate 4096 65)

pub input_refusals : InputRefusals
unfolding list_input_computes
input_refusals =
    record {
      two_spaces = refl;
      space_before = refl;
      space_behind = refl;
      five = refl;
      seven = refl;
      no_line = refl;
      two_lines = refl;
      text_long = refl;
      read_long = refl;
      longest = refl;
    }
