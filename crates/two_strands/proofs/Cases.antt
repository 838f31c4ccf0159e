-- An example of the order of a run's list: it is computed.
use Prim.Native.Nat.{ℕ}
use mathlib.Core.Path.{◌≡◌, refl}
use mathlib.Core.List.{List, [], ◌∷◌}
use lib.IntN.{pos}
use Rattle.mappings.specs.declared.Score.TheVariants.{Number}
use Rattle.mappings.specs.Cells.{Mapping}
use Rattle.strands.specs.declared.Strand.{Strand}
use Rattle.strands.specs.declared.Strand.TheVariants.{Forward, Reverse}
use Rattle.two_strands.specs.TwoStrands.{forward_first}

abbrev at : ℕ → Mapping
at i = record { a = i; b = i; score = Number (pos 1); m = 1 }

-- two mappings of the read, the later one first, and one of its complement
abbrev mappings : Strand → List Mapping
mappings Forward = at 7 ∷ at 2 ∷ []
mappings Reverse = at 5 ∷ []

pub in_order : forward_first mappings
    ≡ record { strand = Forward; mapping = at 7 } ∷ record { strand = Forward; mapping = at 2 } ∷ record { strand = Reverse; mapping = at 5 } ∷ []
in_order = refl
