-- Document 01's example of what `maplist` prints, with the strand that document 02 adds, and further ones: all are computed.
use mathlib.Core.Path.{◌≡◌, refl}
use mathlib.Core.List.{[], ◌∷◌}
use lib.IntN.{pos}
use Rattle.base.specs.Bytes.{as_bytes}
use Rattle.base.specs.Replies.{refused}
use Rattle.mappings.specs.declared.Scoring.TheVariants.{Linear}
use Rattle.requests.specs.declared.Settings.{Settings}
use Rattle.list_sessions.specs.Calls.{strands_reply}
use Rattle.list_printed.specs.Output.{unless_refused, output_of}
use Rattle.list_printed.proofs.Compute.{list_printed_computes}

pub example : output_of (as_bytes "1 1 100 1 1 1\nACAG\nACG\n") ≡ as_bytes "first last score shared permille strand\n1 3 3 3 1000 +\nfound 1 cells 13\n"
unfolding list_printed_computes
example = refl

-- it is another with the text or the read not struck, with u and v or k and w exchanged, and with a last letter that is the k-mer's first
pub second : output_of (as_bytes "3 2 1 2 1 -3\nCCTACGAGGTAC\nTTACTAC\n")
    ≡ as_bytes "first last score shared permille strand\n1 3 2 1 1000 +\nfound 1 cells 1\n"
unfolding list_printed_computes
second = refl

-- A occurs three times in the text: with c 2 it leaves text and read, and C and G of the read are found. Were it to stay in the read, or
-- to leave it by the read's own counts, nothing would be. With c 3 it stays in both
pub record Striking : Type 0 where
  pub struck : output_of (as_bytes "1 1 2 1 1 1\nACAGA\nAACG\n") ≡ as_bytes "first last score shared permille strand\n1 3 2 2 1000 +\nfound 1 cells 6\n"
  pub kept : output_of (as_bytes "1 1 3 1 1 1\nACAGA\nAACG\n")
      ≡ as_bytes "first last score shared permille strand\n1 4 4 4 1000 +\n0 3 4 4 1000 +\nfound 2 cells 18\n"

pub striking : Striking
unfolding list_printed_computes
striking = record { struck = refl; kept = refl }

-- one of 16 k-mers and three of 16: 62.5 and 187.5, each printed as the even number beside it
pub record Halves : Type 0 where
  pub one_of_16 : output_of (as_bytes "1 1 16 1 1 -14\nA\nACCCCCCCCCCCCCCC\n")
      ≡ as_bytes "first last score shared permille strand\n0 0 -14 1 62 +\nfound 1 cells 1\n"
  pub three_of_16 : output_of (as_bytes "1 1 16 1 1 -10\nAAA\nAAACCCCCCCCCCCCC\n")
      ≡ as_bytes "first last score shared permille strand\n0 2 -10 3 188 +\nfound 1 cells 6\n"

pub halves : Halves
unfolding list_printed_computes
halves = record { one_of_16 = refl; three_of_16 = refl }

-- the weighted Jaccard: in the score's place stand m and the divisor, which is the per mille's
pub record Fractions : Type 0 where
  -- 2/4 is not reduced, and meets the threshold 1/2
  pub half : output_of (as_bytes "1 1 100 1 2 jaccard\nACAG\nACG\n")
      ≡ as_bytes "first last score shared permille strand\n1 3 3/3 3 1000 +\n1 3 2/4 2 500 -\nfound 2 cells 13\n"
  -- and does not meet 2/3
  pub two_thirds : output_of (as_bytes "1 1 100 2 3 jaccard\nACAG\nACG\n")
      ≡ as_bytes "first last score shared permille strand\n1 3 3/3 3 1000 +\nfound 1 cells 13\n"

pub fractions : Fractions
unfolding list_printed_computes
fractions = record { half = refl; two_thirds = refl }

-- the other strand
pub record Strands : Type 0 where
  -- ACC as it is, and then its complement, GGT; the last line has the cells of both
  pub both : output_of (as_bytes "2 1 9 1 1 1\nACCGGT\nACC\n")
      ≡ as_bytes "first last score shared permille strand\n0 2 2 2 1000 +\n3 5 2 2 1000 -\nfound 2 cells 6\n"
  -- only the complement is found: ACC of GGT
  pub reversed : output_of (as_bytes "2 1 9 1 1 1\nGACC\nGGT\n")
      ≡ as_bytes "first last score shared permille strand\n1 3 2 2 1000 -\nfound 1 cells 3\n"
  -- AATT is its own complement, and is listed on both
  pub palindrome : output_of (as_bytes "2 1 9 1 1 1\nCAATTG\nAATT\n")
      ≡ as_bytes "first last score shared permille strand\n1 4 3 3 1000 +\n1 4 3 3 1000 -\nfound 2 cells 12\n"
  -- the complement of AccN is NGGT
  pub other_letters : output_of (as_bytes "2 1 9 1 1 1\nACGGT\nAccN\n")
      ≡ as_bytes "first last score shared permille strand\n2 4 2 2 1000 -\nfound 1 cells 4\n"

pub strands : Strands
unfolding list_printed_computes
strands = record { both = refl; reversed = refl; palindrome = refl; other_letters = refl }

-- k 1, w 1, c 1, u 1, v 1, threshold 1
abbrev asked : Settings
asked = record { k = 1; w = 1; c = 1; scoring = Linear 1 1 (pos 1) }

-- where both strands are refused with different numbers, it is the forward read's: 10 where a session has no work words, 9 where a read is emptied
pub record BothRefused : Type 0 where
  -- T is struck from TT and empties the complement of A; the read itself has no work words
  pub forward_words : strands_reply asked (as_bytes "TT") (as_bytes "A") 4096 0 16384 ≡ refused 10 []
  -- A is struck from AA and empties the read; its complement has no work words
  pub forward_emptied : strands_reply asked (as_bytes "AA") (as_bytes "A") 4096 16384 0 ≡ refused 9 []
  -- the complement's, where the read is accepted
  pub complement_words : strands_reply asked (as_bytes "AC") (as_bytes "A") 4096 16384 0 ≡ refused 10 []

pub both_refused : BothRefused
unfolding list_printed_computes
both_refused = record { forward_words = refl; forward_emptied = refl; complement_words = refl }

-- what is printed instead of a list
pub record Refusals : Type 0 where
  -- no line
  pub no_line : output_of [] ≡ as_bytes "refused input\n"
  -- with the empty read line: the sketch refuses k first. With k 1 it refuses w; with w 1 strike refuses c; with c 1 start refuses u; with u 1
  -- it refuses the empty pattern
  pub k_bad : output_of (as_bytes "16 0 0 0 1 1\nA\n\n") ≡ as_bytes "refused 1\n"
  pub w_bad : output_of (as_bytes "1 0 0 0 1 1\nA\n\n") ≡ as_bytes "refused 2\n"
  pub c_bad : output_of (as_bytes "1 1 0 0 1 1\nA\n\n") ≡ as_bytes "refused 6\n"
  pub u_bad : output_of (as_bytes "1 1 1 0 1 1\nA\n\n") ≡ as_bytes "refused 7\n"
  -- in this place f over g, and g 0; with f 0 and g 1 the empty pattern is refused
  pub f_over_g : output_of (as_bytes "1 1 1 2 1 jaccard\nA\n\n") ≡ as_bytes "refused 17\n"
  pub g_zero : output_of (as_bytes "1 1 1 0 0 jaccard\nA\n\n") ≡ as_bytes "refused 17\n"
  pub f_zero : output_of (as_bytes "1 1 1 0 1 jaccard\nA\n\n") ≡ as_bytes "refused 9\n"
  pub read_empty : output_of (as_bytes "1 1 1 1 1 1\nA\n\n") ≡ as_bytes "refused 9\n"
  -- a read of which nothing remains: A occurs more often in the text than c allows
  pub read_emptied : output_of (as_bytes "1 1 1 1 1 1\nAA\nA\n") ≡ as_bytes "refused 9\n"
  -- and one whose complement is emptied, though the read itself is accepted
  pub complement_emptied : output_of (as_bytes "1 1 1 1 1 1\nTT\nA\n") ≡ as_bytes "refused 9\n"
  -- without the second value
  pub number_alone : unless_refused (refused 11 (2049 ∷ [])) [] ≡ as_bytes "refused 11\n"

pub refusals : Refusals
unfolding list_printed_computes
refusals =
    record {
      no_line = refl;
      k_bad = refl;
      w_bad = refl;
      c_bad = refl;
      u_bad = refl;
      f_over_g = refl;
      g_zero = refl;
      f_zero = refl;
      read_empty = refl;
      read_emptied = refl;
      complement_emptied = refl;
      number_alone = refl;
    }
