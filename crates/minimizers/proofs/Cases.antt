-- Examples that tell the definitions of windows and of what they pick from likely mistakes: each is computed.
use mathlib.Core.Path.{◌≡◌, refl}
use mathlib.Core.List.{[], ◌∷◌}
use Rattle.base.specs.Bytes.{as_bytes}
use Rattle.kmers.specs.Kmers.{positions}
use Rattle.minimizers.specs.Sketch.{sketch}
use Rattle.minimizers.proofs.Compute.{minimizers_compute}

pub record SketchExamples : Type 0 where
  -- among equal ranks the rightmost is picked
  pub rightmost : positions (sketch 1 2 (as_bytes "AAAT")) ≡ 1 ∷ 2 ∷ []
  -- the k-mers of a run of fewer than w form one window, which picks one of them
  pub short_run : positions (sketch 1 5 (as_bytes "GT")) ≡ 1 ∷ []
  -- the multiplier 2,654,435,769 in the place of 01's picks the other k-mer
  pub multiplied : positions (sketch 15 2 (as_bytes "CGCAGCAAATGATGTC")) ≡ 0 ∷ []

pub sketch_examples : SketchExamples
unfolding minimizers_compute
sketch_examples = record { rightmost = refl; short_run = refl; multiplied = refl }
