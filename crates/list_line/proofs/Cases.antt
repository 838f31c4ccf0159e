-- Examples of printed lines, among them document 01's: each is computed from the definitions.
use mathlib.Core.Path.{◌≡◌, refl}
use mathlib.Core.List.{[]}
use lib.IntN.{pos, negsuc}
use Rattle.base.specs.Bytes.{as_bytes}
use Rattle.mappings.specs.declared.Score.TheVariants.{Number, Fraction}
use Rattle.strands.specs.declared.Strand.TheVariants.{Forward, Reverse}
use Rattle.list_line.specs.Line.{signed, line, fitting}
use Rattle.list_line.proofs.Compute.{list_line_computes}

-- a line of each strand, one with a fraction, which is not reduced, the lowest score, and a line that is one byte longer than the buffer
pub record LineCases : Type 0 where
  pub example : line 1 3 (Number (pos 3)) 3 1000 Forward ≡ as_bytes "1 3 3 3 1000 +\n"
  pub negative : line 0 10 (Number (negsuc 4)) 2 62 Reverse ≡ as_bytes "0 10 -5 2 62 -\n"
  pub fraction : line 4 41 (Fraction 30 38) 30 882 Forward ≡ as_bytes "4 41 30/38 30 882 +\n"
  pub lowest : signed (negsuc 2147483647) ≡ as_bytes "-2147483648"
  pub long : fitting 14 (line 1 3 (Number (pos 3)) 3 1000 Forward) ≡ []

pub line_cases : LineCases
unfolding list_line_computes
line_cases = record { example = refl; negative = refl; fraction = refl; lowest = refl; long = refl }
