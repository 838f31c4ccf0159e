-- The lines of a session's mappings.
use Rattle.std.specs.Prelude.{ℕ, ◌+◌, ◌-◌, List, [], ◌∷◌, ◌++◌, get_or}
use Rattle.mappings.specs.Score.{length_of}
use Rattle.mappings.specs.Cells.{Mapping}
use Rattle.strands.specs.declared.Strand.{Strand}
use Rattle.per_mille.specs.PerMille.{per_mille}
use Rattle.list_line.specs.Line.{line}

-- the line of a mapping: first letter, last letter (position of entry b, + k − 1), score, m, per mille, strand; from the positions of the
-- text's entries, k, the number of entries of the pattern and the strand
unfoldable pub mapping_line : List ℕ → ℕ → ℕ → Strand → Mapping → List ℕ
mapping_line places k size strand mapping =
    line
    (get_or places mapping.a 0)
    (get_or places mapping.b 0 + k - 1)
    mapping.score
    mapping.m
    (per_mille mapping.m (length_of mapping.a mapping.b) size)
    strand

abbrev pub mapping_lines : List ℕ → ℕ → ℕ → Strand → List Mapping → List ℕ
mapping_lines places k size strand [] = []
mapping_lines places k size strand (mapping ∷ rest) = mapping_line places k size strand mapping ++ mapping_lines places k size strand rest
