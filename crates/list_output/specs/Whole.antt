-- A run of `maplist`: the pieces that it writes, one after the other, and what is left of the output after each.
use Rattle.std.specs.Prelude.{ℕ, suc, ◌+◌, ◌-◌, ◌≤◌, ◌<◌, ◌≡◌, List, [], ◌++◌, length, take, Option, Some, None}
use Rattle.base.specs.Limits.{work_words, line_limit}
use Rattle.mappings.specs.Score.{Task}
use Rattle.mappings.specs.Cells.{hit_count, cell_count}
use Rattle.session_start.specs.WorkWords.{session_words}
use Rattle.mapper.specs.Promise.{Accepts}
use Rattle.strands.specs.declared.Strand.TheVariants.{Forward, Reverse}
use Rattle.list_input.specs.Input.{input_limit}
use Rattle.list_lines.specs.Pieces.{line_room, finals_after, lines_after, Belongs}
use Rattle.list_lines.specs.declared.filling.Filled.{Filled}
use Rattle.list_sessions.specs.declared.Sessions.{Sessions}
use Rattle.list_printed.specs.Output.{last_line, output_of}
use Rattle.list_output.specs.Beginning.{Begins}
use Rattle.list_output.specs.Filling.{FillsRun}
use Rattle.list_output.specs.declared.beginning.Begun.{Begun}

-- the pieces behind the first, given the work words of both sessions, the mappings found and what is left: each as `fill` writes it into a buffer
-- that has room for a line, until nothing is left
pub data Further (places : List ℕ) (k size size' : ℕ) : List ℕ → List ℕ → ℕ → ℕ → List ℕ → Type 0 where
  no_more : {forward reverse : List ℕ} {found : ℕ} → Further places k size size' forward reverse found 0 []
  one_more : {forward reverse forward' reverse' out out' rest : List ℕ} {found left : ℕ} {r : Filled}
      → 0 < left
      → line_room ≤ length out
      → FillsRun forward reverse places k size size' found out r forward' reverse' out'
      → Further places k size size' forward' reverse' r.found r.left rest
      → Further places k size size' forward reverse found left (take r.written out' ++ rest)

-- the pieces behind the first: none, where there are no sessions
abbrev pub Following : List ℕ → Option Sessions → List ℕ → List ℕ → ℕ → List ℕ → Type 0
Following places None forward reverse left rest = rest ≡ []
Following places (Some s) forward reverse left rest = Further places s.k s.size s.reverse_size forward reverse 0 left rest

-- a run on this input, and all that it writes: the first piece as `begin` writes it for the first bytes of the input, then the others
pub record Run (input printed : List ℕ) : Type 0 where
  pub places : List ℕ
  pub forward : List ℕ
  pub reverse : List ℕ
  pub out : List ℕ
  pub room : length places ≡ line_limit
  pub lent : length forward ≡ work_words
  pub lent' : length reverse ≡ work_words
  pub long : line_room ≤ length out
  pub begun : Begun
  pub places' : List ℕ
  pub forward' : List ℕ
  pub reverse' : List ℕ
  pub out' : List ℕ
  pub first : Begins (take input_limit input) places forward reverse out begun places' forward' reverse' out'
  pub rest : List ℕ
  pub further : Following places' begun.sessions forward' reverse' begun.left rest
  pub whole : printed ≡ take begun.written out' ++ rest

-- a session in some work words, after q cells
pub record InHand (task : Task) (places : List ℕ) (k size : ℕ) (work : List ℕ) (q : ℕ) : Type 0 where
  pub before : List ℕ
  pub accepts : Accepts task before
  pub belongs : Belongs task places k size
  pub among : q ≤ cell_count (hit_count task)
  pub words : work ≡ session_words task before q

-- what is still to be printed after q cells of the forward session and q' of the other, `found` mappings being printed
abbrev pub rest_of : Task → Task → List ℕ → ℕ → ℕ → ℕ → ℕ → ℕ → ℕ → List ℕ
rest_of task task' places k size size' q q' found =
    lines_after task places k size Forward q
    ++ lines_after task' places k size' Reverse q'
    ++ last_line (found + length (finals_after task q) + length (finals_after task' q')) (cell_count (hit_count task) + cell_count (hit_count task'))

-- two sessions in the work words whose output has been printed up to q and q' cells, `found` mappings among them
pub record Printing (bytes places forward reverse : List ℕ) (k size size' found left : ℕ) (printed : List ℕ) : Type 0 where
  pub task : Task
  pub task' : Task
  pub q : ℕ
  pub q' : ℕ
  pub ahead : InHand task places k size forward q
  pub behind : InHand task' places k size' reverse q'
  pub counted : found ≤ q + q'
  pub remaining : left ≡ suc (cell_count (hit_count task) - q) + suc (cell_count (hit_count task') - q')
  pub rest : printed ++ rest_of task task' places k size size' q q' found ≡ output_of bytes
