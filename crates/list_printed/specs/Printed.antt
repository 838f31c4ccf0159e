-- What `maplist` prints for an accepted input, said by ESKEMAP's Definition 1 itself.
use Rattle.std.specs.Prelude.{ℕ, ◌+◌, ◌≡◌, List, ◌++◌, length}
use Rattle.kmers.specs.Kmers.{positions}
use Rattle.mappings.specs.Definition1.{Final}
use Rattle.mappings.specs.Cells.{Mapping, cells_of, hit_count, cell_count}
use Rattle.mappings.specs.Demand.{FinalsAmong, EachOnce, Among}
use Rattle.strands.specs.declared.Strand.{Strand}
use Rattle.strands.specs.declared.Strand.TheVariants.{Forward, Reverse}
use Rattle.strands.specs.Complement.{reverse_complement}
use Rattle.requests.specs.declared.Settings.{Settings}
use Rattle.requests.specs.Requests.{text_of, pattern_of}
use Rattle.requests.specs.Strands.{task_on}
use Rattle.list_lines.specs.Lines.{mapping_lines}
use Rattle.list_printed.specs.Output.{header_line, last_line}

-- the header, the lines of exactly the final mappings of the read, then those of its reverse complement, and the last line
pub record PrintsFinals (s : Settings) (text read output : List ℕ) : Type 0 where
  pub mappings : Strand → List Mapping
  -- those of a strand are the final ones among all cells of its task, in their order, each with its a, b, score and m
  pub exact : (strand : Strand) → FinalsAmong (task_on s text read strand) (cells_of (task_on s text read strand)) (mappings strand)
  -- so each interval of the text that is final on a strand stands there, and once
  pub complete : (strand : Strand) (a b : ℕ) → Final (task_on s text read strand) a b → Among (mappings strand) a b
  pub once : (strand : Strand) → EachOnce (mappings strand)
  pub bytes : output
      ≡ header_line
      ++ mapping_lines (positions (text_of s text)) s.k (length (pattern_of s text read)) Forward (mappings Forward)
      ++ mapping_lines (positions (text_of s text)) s.k (length (pattern_of s text (reverse_complement read))) Reverse (mappings Reverse)
      ++ last_line
      (length (mappings Forward) + length (mappings Reverse))
      (cell_count (hit_count (task_on s text read Forward)) + cell_count (hit_count (task_on s text read Reverse)))
