-- Cases 5 to 9 of document 01's table by the codes of their letters, and examples that each rule out a mistaken definition: all are
-- computed from the definitions.
use Prim.Native.Nat.{ℕ}
use mathlib.Core.Path.{◌≡◌, refl}
use mathlib.Core.List.{List, [], ◌∷◌}
use lib.IntN.{ℤ, pos, negsuc}
use Rattle.base.specs.Limits.{hit_limit, work_words}
use Rattle.mappings.specs.declared.Scoring.TheVariants.{Linear, Jaccard}
use Rattle.mappings.specs.declared.Score.{Score}
use Rattle.mappings.specs.declared.Score.TheVariants.{Number, Fraction}
use Rattle.mappings.specs.Score.{Task, task_with}
use Rattle.mappings.specs.Cells.{Mapping, cell_count}
use Rattle.mappings.specs.Rule.{found, finished, spent, refused, Step}
use Rattle.mappings.specs.Steps.{answers}
use Rattle.mappings.proofs.Compute.{mappings_compute}

-- the codes of text and read with k 1: A, C, G, T are 0, 1, 2, 3; with u = v = 1
abbrev task : List ℕ → List ℕ → ℤ → Task
task text read threshold = task_with text read (Linear 1 1 threshold)

abbrev pub mapping : ℕ → ℕ → Score → ℕ → Mapping
mapping a b score m = record { a = a; b = b; score = score; m = m }

-- an accepted step with this budget
abbrev pub step : ℕ → Step
step budget = record { budget = budget; lent = work_words }

-- a step that is lent too few words
abbrev short : ℕ → ℕ → Step
short budget lent = record { budget = budget; lent = lent }

-- 003's Figure 1: AC, CG, GA and AC in AC, AC, CA, TA, CA, GA, CG, AC and GG, as codes of k 2
abbrev pub figure1 : Task
figure1 = record {
  text = 1 ∷ 1 ∷ 4 ∷ 12 ∷ 4 ∷ 8 ∷ 6 ∷ 1 ∷ 10 ∷ [];
  pattern = 1 ∷ 6 ∷ 8 ∷ 1 ∷ [];
  scoring = Linear 1 1 (pos 1);
}

-- 5. ATTC, AC, threshold 0: [0, 3], [3, 3], [0, 0], each score 0. 6. ACAG, ACG, threshold 1: only [1, 3].
-- 7. The same, budgets 0, 1, 5, 8: spent 0; spent 1; found with 1; finished with 8.
-- 8. Figure 1, threshold 1: [1, 7], [5, 7], [0, 6], scores 1, 2, 1. 9. Empty text, read A, budget 0: finished with 0.
-- Cases 5, 6 and 8 take as many steps as there are mappings, and one more
pub record MappingCases : Type 0 where
  pub case5 : answers (task (0 ∷ 3 ∷ 3 ∷ 1 ∷ []) (0 ∷ 1 ∷ []) (pos 0)) 0 (step 9 ∷ step 9 ∷ step 9 ∷ step 9 ∷ [])
      ≡ found (mapping 0 3 (Number (pos 0)) 2) 1 ∷ found (mapping 3 3 (Number (pos 0)) 1) 1 ∷ found (mapping 0 0 (Number (pos 0)) 1) 1
      ∷ finished 0 ∷ []
  pub case6 : answers (task (0 ∷ 1 ∷ 0 ∷ 2 ∷ []) (0 ∷ 1 ∷ 2 ∷ []) (pos 1)) 0 (step 99 ∷ step 99 ∷ [])
      ≡ found (mapping 1 3 (Number (pos 3)) 3) 2 ∷ finished 8 ∷ []
  pub case7 : answers (task (0 ∷ 1 ∷ 0 ∷ 2 ∷ []) (0 ∷ 1 ∷ 2 ∷ []) (pos 1)) 0 (step 0 ∷ step 1 ∷ step 5 ∷ step 8 ∷ [])
      ≡ spent 0 ∷ spent 1 ∷ found (mapping 1 3 (Number (pos 3)) 3) 1 ∷ finished 8 ∷ []
  pub case8 : answers figure1 0 (step 99 ∷ step 99 ∷ step 99 ∷ step 99 ∷ [])
      ≡ found (mapping 1 7 (Number (pos 1)) 4) 2 ∷ found (mapping 5 7 (Number (pos 2)) 3) 1 ∷ found (mapping 0 6 (Number (pos 1)) 4) 3
      ∷ finished 9 ∷ []
  pub case9 : answers (task [] (0 ∷ []) (pos 0)) 0 (step 0 ∷ []) ≡ finished 0 ∷ []

pub mapping_cases : MappingCases
unfolding mappings_compute
mapping_cases = record { case5 = refl; case6 = refl; case7 = refl; case8 = refl; case9 = refl }

-- Examples beyond the table. `tied`: AATC, AC: [0, 0] stays, though [0, 3] scores as much. `wider`: CCAT, AC, u = 2: [0, 0] is not final, though only [0, 2]
-- and [0, 3] score more, neither of which is reasonable, and [0, 3] does not end on a hit. `one_end`: ACC, AC: [0, 2] scores
-- 1 and nothing is wider, but only its left end is reasonable. `weights`: ATGCA, AC, u = 2, v = 3, threshold −2: scores below 0, one at
-- the threshold. `refusals`: case 6 by steps of which two are lent too few words.
-- `found_first`: case 6 with a budget that ends at the final cell: found goes before spent
pub record MappingExamples : Type 0 where
  pub tied : answers (task (0 ∷ 0 ∷ 3 ∷ 1 ∷ []) (0 ∷ 1 ∷ []) (pos 0)) 0 (step 9 ∷ step 9 ∷ step 9 ∷ [])
      ≡ found (mapping 1 3 (Number (pos 1)) 2) 2 ∷ found (mapping 0 0 (Number (pos 0)) 1) 4 ∷ finished 0 ∷ []
  pub wider : answers (task_with (1 ∷ 1 ∷ 0 ∷ 3 ∷ []) (0 ∷ 1 ∷ []) (Linear 2 1 (pos 1))) 0 (step 9 ∷ step 9 ∷ [])
      ≡ found (mapping 1 2 (Number (pos 4)) 2) 2 ∷ finished 4 ∷ []
  pub one_end : answers (task (0 ∷ 1 ∷ 1 ∷ []) (0 ∷ 1 ∷ []) (pos 0)) 0 (step 9 ∷ step 9 ∷ [])
      ≡ found (mapping 0 1 (Number (pos 2)) 2) 4 ∷ finished 2 ∷ []
  pub weights : answers (task_with (0 ∷ 3 ∷ 2 ∷ 1 ∷ 0 ∷ []) (0 ∷ 1 ∷ []) (Linear 2 3 (negsuc 1))) 0
      (step 9 ∷ step 9 ∷ step 9 ∷ step 9 ∷ [])
      ≡ found (mapping 3 4 (Number (pos 4)) 2) 2 ∷ found (mapping 0 3 (Number (negsuc 1)) 2) 2 ∷ found (mapping 0 0 (Number (negsuc 0)) 1) 2
      ∷ finished 0 ∷ []
  pub refusals : answers (task (0 ∷ 1 ∷ 0 ∷ 2 ∷ []) (0 ∷ 1 ∷ 2 ∷ []) (pos 1)) 0
      (step 1 ∷ short 9 16383 ∷ step 5 ∷ short 8 0 ∷ step 8 ∷ step 0 ∷ [])
      ≡ spent 1 ∷ refused 10 ∷ found (mapping 1 3 (Number (pos 3)) 3) 1 ∷ refused 10 ∷ finished 8 ∷ finished 0 ∷ []
  pub found_first : answers (task (0 ∷ 1 ∷ 0 ∷ 2 ∷ []) (0 ∷ 1 ∷ 2 ∷ []) (pos 1)) 0 (step 2 ∷ step 7 ∷ step 1 ∷ [])
      ≡ found (mapping 1 3 (Number (pos 3)) 3) 2 ∷ spent 7 ∷ finished 1 ∷ []

pub mapping_examples : MappingExamples
unfolding mappings_compute
mapping_examples = record { tied = refl; wider = refl; one_end = refl; weights = refl; refusals = refl; found_first = refl }

-- Examples of the weighted Jaccard. `ranked_apart`: ATTC, ACG: [0, 3] scores less than [0, 0] by the linear score with u = 1, v = 2, and more as
-- a fraction, 2/5 against 1/3, so that the ends alone are not final. `equal_fractions`: ATTC, AC: [0, 0] with 1/2 stays, though [0, 3] has 2/4.
-- `threshold_met`: ATATC, ACG, threshold 1/2: met by 2/4, and not by the 1/3 of [0, 0]. `just_missed`: A, ACG: 1/3 is below 332/995, though both
-- are 0.333 when cut off. `none_too_low`: as `threshold_met` with the threshold 0/1: [0, 0] too. `only_equal`: ACA, AC, threshold 3/3: the two
-- intervals with the codes of AC, and nothing else
pub record JaccardExamples : Type 0 where
  pub ranked_apart : (answers (task_with (0 ∷ 3 ∷ 3 ∷ 1 ∷ []) (0 ∷ 1 ∷ 2 ∷ []) (Linear 1 2 (negsuc 3))) 0
      (step 9 ∷ step 9 ∷ step 9 ∷ step 9 ∷ [])
      ≡ found (mapping 0 3 (Number (negsuc 3)) 2) 1 ∷ found (mapping 3 3 (Number (negsuc 2)) 1) 1 ∷ found (mapping 0 0 (Number (negsuc 2)) 1) 1
      ∷ finished 0 ∷ [])
      × (answers (task_with (0 ∷ 3 ∷ 3 ∷ 1 ∷ []) (0 ∷ 1 ∷ 2 ∷ []) (Jaccard 1 9)) 0 (step 9 ∷ step 9 ∷ [])
      ≡ found (mapping 0 3 (Fraction 2 5) 2) 1 ∷ finished 2 ∷ [])
  pub equal_fractions : answers (task_with (0 ∷ 3 ∷ 3 ∷ 1 ∷ []) (0 ∷ 1 ∷ []) (Jaccard 1 9)) 0 (step 9 ∷ step 9 ∷ step 9 ∷ step 9 ∷ [])
      ≡ found (mapping 0 3 (Fraction 2 4) 2) 1 ∷ found (mapping 3 3 (Fraction 1 2) 1) 1 ∷ found (mapping 0 0 (Fraction 1 2) 1) 1 ∷ finished 0 ∷ []
  pub threshold_met : answers (task_with (0 ∷ 3 ∷ 0 ∷ 3 ∷ 1 ∷ []) (0 ∷ 1 ∷ 2 ∷ []) (Jaccard 1 2)) 0 (step 9 ∷ step 9 ∷ [])
      ≡ found (mapping 2 4 (Fraction 2 4) 2) 2 ∷ finished 4 ∷ []
  pub just_missed : answers (task_with (0 ∷ []) (0 ∷ 1 ∷ 2 ∷ []) (Jaccard 332 995)) 0 (step 9 ∷ []) ≡ finished 1 ∷ []
  pub none_too_low : answers (task_with (0 ∷ 3 ∷ 0 ∷ 3 ∷ 1 ∷ []) (0 ∷ 1 ∷ 2 ∷ []) (Jaccard 0 1)) 0 (step 9 ∷ step 9 ∷ step 9 ∷ [])
      ≡ found (mapping 2 4 (Fraction 2 4) 2) 2 ∷ found (mapping 0 0 (Fraction 1 3) 1) 4 ∷ finished 0 ∷ []
  pub only_equal : answers (task_with (0 ∷ 1 ∷ 0 ∷ []) (0 ∷ 1 ∷ []) (Jaccard 3 3)) 0 (step 9 ∷ step 9 ∷ step 9 ∷ [])
      ≡ found (mapping 1 2 (Fraction 2 2) 2) 2 ∷ found (mapping 0 1 (Fraction 2 2) 2) 2 ∷ finished 2 ∷ []

pub jaccard_examples : JaccardExamples
unfolding mappings_compute
jaccard_examples = record {
  ranked_apart = (refl, refl);
  equal_fractions = refl;
  threshold_met = refl;
  just_missed = refl;
  none_too_low = refl;
  only_equal = refl;
}

-- the cells of the most hits
pub most_cells : cell_count hit_limit ≡ 2098176
unfolding mappings_compute
most_cells = refl
