-- The laws of the reverse complement at work on one read. The complement itself stays closed here, so that only the laws give these
-- statements, and a weaker law would not.
use Prim.Native.Nat.{ℕ}
use mathlib.Core.Path.{◌≡◌, refl}
use mathlib.Core.Bool.{true}
use mathlib.Core.List.{List, [], ◌∷◌}
use lib.ListN.{length}
use Rattle.kmers.specs.Letters.{value, is_foreign, runs}
use Rattle.strands.specs.Complement.{complement, reverse_complement}
use Rattle.strands.specs.Upper.{upper, opposite}
use Rattle.strands.proofs.Laws.{length_complement, twice, foreign_kept, foreign_same, value_complement, runs_opposite}

-- AccNg
abbrev read : List ℕ
read = 65 ∷ 99 ∷ 99 ∷ 78 ∷ 103 ∷ []

pub record LawCases : Type 0 where
  pub long : length (reverse_complement read) ≡ 5
  -- ACCNG
  pub back : reverse_complement (reverse_complement read) ≡ 65 ∷ 67 ∷ 67 ∷ 78 ∷ 71 ∷ []
  -- N
  pub kept : complement 78 ≡ 78
  pub outside : is_foreign (complement 78) ≡ true
  -- c has 1, and its complement 2
  pub partners : value (complement 99) ≡ 2
  -- C and GGT
  pub other_runs : runs (reverse_complement read) ≡ (1 ∷ []) ∷ (2 ∷ 2 ∷ 3 ∷ []) ∷ []

pub law_cases : LawCases
unfolding value is_foreign runs upper opposite
law_cases =
    record {
      long = length_complement read;
      back = twice read;
      kept = foreign_kept 78 refl;
      outside = foreign_same 78;
      partners = value_complement 99 refl;
      other_runs = runs_opposite read;
    }
