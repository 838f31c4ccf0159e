-- Document 01's nine cases as one theorem about the definitions, from letters on, and an example that only a struck text and a struck
-- read meet: all are computed.
use Prim.Native.Nat.{ℕ}
use mathlib.Core.Path.{◌≡◌, refl}
use mathlib.Core.List.{List, [], ◌∷◌}
use lib.IntN.{ℤ, pos}
use Rattle.base.specs.Bytes.{as_bytes}
use Rattle.kmers.specs.Kmers.{positions}
use Rattle.minimizers.specs.Sketch.{sketch}
use Rattle.store.specs.Save.{stored}
use Rattle.store.proofs.Compute.{store_computes}
use Rattle.strike.proofs.Compute.{strike_computes}
use Rattle.mappings.specs.declared.Scoring.TheVariants.{Linear}
use Rattle.mappings.specs.declared.Score.TheVariants.{Number}
use Rattle.mappings.specs.Score.{Task}
use Rattle.mappings.specs.Rule.{found, finished, spent}
use Rattle.mappings.specs.Steps.{answers}
use Rattle.mappings.proofs.Compute.{mappings_compute}
use Rattle.mappings.proofs.Cases.{mapping, step, figure1}
use Rattle.requests.specs.Requests.{text_of, pattern_of, task_of}

-- the task of text and read letters with k 1, w 1 and u = v = 1, both struck with c
abbrev struck_task : ℕ → List ℕ → List ℕ → ℤ → Task
struck_task c text read threshold = task_of (record { k = 1; w = 1; c = c; scoring = Linear 1 1 threshold }) text read

-- with c 100
abbrev task : List ℕ → List ℕ → ℤ → Task
task text read threshold = struck_task 100 text read threshold

pub record NineCases : Type 0 where
  -- AAAT, w 2: positions 1, 2
  pub case1 : positions (sketch 1 2 (as_bytes "AAAT")) ≡ 1 ∷ 2 ∷ []
  -- GTC, w 2: position 1
  pub case2 : positions (sketch 1 2 (as_bytes "GTC")) ≡ 1 ∷ []
  -- CNA, w 2: positions 0, 2
  pub case3 : positions (sketch 1 2 (as_bytes "CNA")) ≡ 0 ∷ 2 ∷ []
  -- the store of 1
  pub case4 : stored 1 2 (sketch 1 2 (as_bytes "AAAT"))
      ≡ 0x00000041 ∷ 0x40000000 ∷ 0x80000001 ∷ 0x40000000 ∷ 0x80000002 ∷ 0xC0000002 ∷ []
  -- text ATTC, read AC, threshold 0: [0, 3], [3, 3], [0, 0], each score 0. Here and in 6 and 8 one step more than there are mappings
  pub case5 : answers (task (as_bytes "ATTC") (as_bytes "AC") (pos 0)) 0 (step 9 ∷ step 9 ∷ step 9 ∷ step 9 ∷ [])
      ≡ found (mapping 0 3 (Number (pos 0)) 2) 1
      ∷ found (mapping 3 3 (Number (pos 0)) 1) 1 ∷ found (mapping 0 0 (Number (pos 0)) 1) 1 ∷ finished 0 ∷ []
  -- ACAG, ACG, threshold 1: only [1, 3]
  pub case6 : answers (task (as_bytes "ACAG") (as_bytes "ACG") (pos 1)) 0 (step 99 ∷ step 99 ∷ [])
      ≡ found (mapping 1 3 (Number (pos 3)) 3) 2 ∷ finished 8 ∷ []
  -- the same, budgets 0, 1, 5, 8: spent 0; spent 1; found with 1; finished with 8
  pub case7 : answers (task (as_bytes "ACAG") (as_bytes "ACG") (pos 1)) 0 (step 0 ∷ step 1 ∷ step 5 ∷ step 8 ∷ [])
      ≡ spent 0 ∷ spent 1 ∷ found (mapping 1 3 (Number (pos 3)) 3) 1 ∷ finished 8 ∷ []
  -- 003's Figure 1, threshold 1: [1, 7], [5, 7], [0, 6], scores 1, 2, 1
  pub case8 : answers figure1 0 (step 99 ∷ step 99 ∷ step 99 ∷ step 99 ∷ [])
      ≡ found (mapping 1 7 (Number (pos 1)) 4) 2
      ∷ found (mapping 5 7 (Number (pos 2)) 3) 1 ∷ found (mapping 0 6 (Number (pos 1)) 4) 3 ∷ finished 9 ∷ []
  -- empty text, read A, budget 0: finished with 0
  pub case9 : answers (task [] (as_bytes "A") (pos 0)) 0 (step 0 ∷ []) ≡ finished 0 ∷ []

pub nine_cases : NineCases
unfolding store_computes strike_computes mappings_compute text_of pattern_of task_of
nine_cases =
    record {
      case1 = refl;
      case2 = refl;
      case3 = refl;
      case4 = refl;
      case5 = refl;
      case6 = refl;
      case7 = refl;
      case8 = refl;
      case9 = refl;
    }

-- with c 1, A leaves ACAG and ACG: both are CG then, and the list is another than in case 6. Were the read not struck, its score would be 1
pub struck_both : answers (struck_task 1 (as_bytes "ACAG") (as_bytes "ACG") (pos 1)) 0 (step 9 ∷ step 9 ∷ [])
    ≡ found (mapping 0 1 (Number (pos 2)) 2) 1 ∷ finished 2 ∷ []
unfolding strike_computes mappings_compute text_of pattern_of task_of
struck_both = refl
