-- What `maplist` prints for the bytes of its standard input.
use Rattle.std.specs.Prelude.{ℕ, ◌+◌, List, [], ◌∷◌, ◌++◌, map, length}
use Rattle.base.specs.Lists.{keep}
use Rattle.base.specs.Replies.{Reply, accepted, refused}
use Rattle.kmers.specs.Kmers.{positions}
use Rattle.base.specs.Limits.{work_words, line_limit}
use Rattle.mappings.specs.Score.{Task}
use Rattle.mappings.specs.Cells.{Cell, cells_of, mapping_of}
use Rattle.mappings.specs.FinalTest.{is_final_cell}
use Rattle.requests.specs.declared.Settings.{Settings}
use Rattle.requests.specs.Requests.{text_of, pattern_of}
use Rattle.requests.specs.Strands.{task_on}
use Rattle.strands.specs.declared.Strand.{Strand}
use Rattle.strands.specs.declared.Strand.TheVariants.{Forward, Reverse}
use Rattle.strands.specs.Strands.{read_on}
use Rattle.list_line.specs.Line.{decimal}
use Rattle.list_lines.specs.Lines.{mapping_lines}
use Rattle.base.specs.Bytes.{as_bytes, line_feed}
use Rattle.list_input.specs.Input.{Input, malformed, given, input_of}
use Rattle.list_sessions.specs.Calls.{strands_reply}

-- the header
abbrev pub header_line : List ℕ
header_line = as_bytes "first last score shared permille strand\n"

abbrev pub malformed_line : List ℕ
malformed_line = as_bytes "refused input\n"

abbrev pub refused_line : ℕ → List ℕ
refused_line number = as_bytes "refused " ++ decimal number ++ line_feed ∷ []

-- the first refusal's number; where none refuses, the rest
abbrev pub unless_refused : Reply → List ℕ → List ℕ
unless_refused (accepted values) rest = rest
unless_refused (refused number values) rest = refused_line number

-- the final cells, in the order of the list
unfoldable pub final_cells : Task → List Cell
final_cells task = keep (is_final_cell task) (cells_of task)

-- the number of mappings and of all cells passed
unfoldable pub last_line : ℕ → ℕ → List ℕ
last_line found cells = as_bytes "found " ++ decimal found ++ as_bytes " cells " ++ decimal cells ++ line_feed ∷ []

-- the lines of a strand's final mappings, in its own cell order
unfoldable pub strand_lines : Settings → List ℕ → List ℕ → Strand → List ℕ
strand_lines s text read strand =
    mapping_lines (positions (text_of s text)) s.k (length (pattern_of s text (read_on strand read))) strand
    (map (mapping_of (task_on s text read strand)) (final_cells (task_on s text read strand)))

-- how many mappings a strand has, and how many cells
abbrev pub found_on : Settings → List ℕ → List ℕ → Strand → ℕ
found_on s text read strand = length (final_cells (task_on s text read strand))

abbrev pub cells_on : Settings → List ℕ → List ℕ → Strand → ℕ
cells_on s text read strand = length (cells_of (task_on s text read strand))

-- header, the lines of the forward read's final mappings, then those of its complement; the last line sums both
unfoldable pub list_of : Settings → List ℕ → List ℕ → List ℕ
list_of s text read =
    header_line
    ++ strand_lines s text read Forward
    ++ strand_lines s text read Reverse
    ++ last_line
    (found_on s text read Forward + found_on s text read Reverse)
    (cells_on s text read Forward + cells_on s text read Reverse)

-- for an input: the calls of both strands in their order, each with a place for each letter, and 16,384 work words for each session; then the
-- list
abbrev pub printed_for : Input → List ℕ
printed_for malformed = malformed_line
printed_for (given s text read) = unless_refused (strands_reply s text read line_limit work_words work_words) (list_of s text read)

-- what `maplist` prints, given the bytes of its standard input
unfoldable pub output_of : List ℕ → List ℕ
output_of bytes = printed_for (input_of bytes)
