-- Examples that tell the task of a request from likely mistakes: each is computed from letters on.
use mathlib.Core.Path.{◌≡◌, refl}
use mathlib.Core.List.{[], ◌∷◌}
use lib.IntN.{negsuc}
use Rattle.base.specs.Bytes.{as_bytes}
use Rattle.kmers.specs.Kmers.{codes, positions}
use Rattle.strands.specs.declared.Strand.TheVariants.{Forward, Reverse}
use Rattle.strands.proofs.Compute.{strands_compute}
use Rattle.strike.proofs.Compute.{strike_computes}
use Rattle.mappings.specs.declared.Scoring.TheVariants.{Linear, Jaccard}
use Rattle.mappings.specs.Score.{task_with}
use Rattle.requests.specs.declared.Settings.{Settings}
use Rattle.requests.specs.Requests.{text_of, pattern_of, task_of}
use Rattle.requests.specs.Strands.{task_on}

-- k 1, w 1, c 1, u 2, v 3, threshold −4
abbrev asked : Settings
asked = record { k = 1; w = 1; c = 1; scoring = Linear 2 3 (negsuc 3) }

-- the same with c one higher
abbrev milder : Settings
milder = record { k = 1; w = 1; c = 2; scoring = Linear 2 3 (negsuc 3) }

-- k 2, w 1, c 1
abbrev longer : Settings
longer = record { k = 2; w = 1; c = 1; scoring = Linear 1 1 (negsuc 0) }

-- the first with the weighted Jaccard and the threshold 2/3
abbrev fraction : Settings
fraction = record { k = 1; w = 1; c = 1; scoring = Jaccard 2 3 }

pub record RequestExamples : Type 0 where
  -- ACAG and AACG: A occurs twice in the text, and is struck in text and read
  pub task : task_of asked (as_bytes "ACAG") (as_bytes "AACG") ≡ task_with (1 ∷ 2 ∷ []) (1 ∷ 2 ∷ []) (Linear 2 3 (negsuc 3))
  -- the scoring is passed on, and changes neither text nor pattern
  pub fraction_task : task_of fraction (as_bytes "ACAG") (as_bytes "AACG") ≡ task_with (1 ∷ 2 ∷ []) (1 ∷ 2 ∷ []) (Jaccard 2 3)
  -- with c 2 it stays in both
  pub milder_task : task_of milder (as_bytes "ACAG") (as_bytes "AACG")
      ≡ task_with (0 ∷ 1 ∷ 0 ∷ 2 ∷ []) (0 ∷ 0 ∷ 1 ∷ 2 ∷ []) (Linear 2 3 (negsuc 3))
  -- CGTT, whose complement is AACG, on both strands: of CGTT itself C and G are in the text, and T is not
  pub forward_task : task_on asked (as_bytes "ACAG") (as_bytes "CGTT") Forward ≡ task_with (1 ∷ 2 ∷ []) (1 ∷ 2 ∷ 3 ∷ 3 ∷ []) (Linear 2 3 (negsuc 3))
  pub reverse_task : task_on asked (as_bytes "ACAG") (as_bytes "CGTT") Reverse ≡ task_with (1 ∷ 2 ∷ []) (1 ∷ 2 ∷ []) (Linear 2 3 (negsuc 3))
  -- what is struck keeps the positions of the rest, in text and read
  pub text_positions : positions (text_of asked (as_bytes "ACAG")) ≡ 1 ∷ 3 ∷ []
  pub read_positions : positions (pattern_of asked (as_bytes "ACAG") (as_bytes "AACG")) ≡ 2 ∷ 3 ∷ []
  -- the text's counts decide, and not the read's: C, which the text has once, and T, which it lacks, stay in a read that has them twice
  pub repeated : codes (pattern_of asked (as_bytes "ACAG") (as_bytes "CCTT")) ≡ 1 ∷ 1 ∷ 3 ∷ 3 ∷ []
  -- a read of which nothing remains
  pub emptied : codes (pattern_of asked (as_bytes "ACAG") (as_bytes "AA")) ≡ []
  -- ACG with k 2 and w 1: AC and CG
  pub longer_read : codes (pattern_of longer (as_bytes "TACG") (as_bytes "ACG")) ≡ 1 ∷ 6 ∷ []
  -- TACG: TA, AC and CG
  pub longer_text : codes (text_of longer (as_bytes "TACG")) ≡ 12 ∷ 1 ∷ 6 ∷ []

pub request_examples : RequestExamples
unfolding strands_compute strike_computes text_of pattern_of task_of
request_examples =
    record {
      task = refl;
      fraction_task = refl;
      milder_task = refl;
      forward_task = refl;
      reverse_task = refl;
      text_positions = refl;
      read_positions = refl;
      repeated = refl;
      emptied = refl;
      longer_read = refl;
      longer_text = refl;
    }
