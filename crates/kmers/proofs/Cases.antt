-- Examples that tell the definitions of letters, k-mers and ranks from likely mistakes: each is computed.
use mathlib.Core.Path.{◌≡◌, refl}
use mathlib.Core.List.{List, [], ◌∷◌, map}
use Prim.Native.Nat.{ℕ}
use Rattle.kmers.specs.Letters.{value, foreign, runs}
use Rattle.kmers.specs.Kmers.{kmers, codes, positions, rank}
use Rattle.kmers.proofs.Compute.{kmers_compute}

-- U, u, R, @, [, `, {, 0 and 255: outside the eight, the neighbours of the letters' two ranges among them
abbrev outside_eight : List ℕ
outside_eight = 85 ∷ 117 ∷ 82 ∷ 64 ∷ 91 ∷ 96 ∷ 123 ∷ 0 ∷ 255 ∷ []

pub record KmerExamples : Type 0 where
  -- ACGT and acgt
  pub upper_case : map value (65 ∷ 67 ∷ 71 ∷ 84 ∷ []) ≡ 0 ∷ 1 ∷ 2 ∷ 3 ∷ []
  pub lower_case : map value (97 ∷ 99 ∷ 103 ∷ 116 ∷ []) ≡ 0 ∷ 1 ∷ 2 ∷ 3 ∷ []
  pub outside_eight : map value outside_eight
      ≡ foreign ∷ foreign ∷ foreign ∷ foreign ∷ foreign ∷ foreign ∷ foreign ∷ foreign ∷ foreign ∷ []
  -- ACNGT: N ends the run
  pub foreign_ends : runs (65 ∷ 67 ∷ 78 ∷ 71 ∷ 84 ∷ []) ≡ (0 ∷ 1 ∷ []) ∷ (2 ∷ 3 ∷ []) ∷ []
  -- ACG has code 6: the first letter is the highest digit
  pub first_highest : codes (kmers 3 0 (0 ∷ 1 ∷ 2 ∷ [])) ≡ 6 ∷ []
  -- a run of four letters has three k-mers of two, and its first letter's index is counted from
  pub neighbouring : positions (kmers 2 7 (0 ∷ 1 ∷ 2 ∷ 3 ∷ [])) ≡ 7 ∷ 8 ∷ 9 ∷ []
  -- the rank of code 1
  pub rank_of_1 : rank 1 ≡ 506952113

pub kmer_examples : KmerExamples
unfolding kmers_compute
kmer_examples =
    record {
      upper_case = refl;
      lower_case = refl;
      outside_eight = refl;
      foreign_ends = refl;
      first_highest = refl;
      neighbouring = refl;
      rank_of_1 = refl;
    }
