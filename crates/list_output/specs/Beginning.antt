-- The first piece of the output, and what it leaves to be printed.
use Rattle.std.specs.Prelude.{ℕ, ◌+◌, ◌≡◌, List, length, Option, Some, None}
use Rattle.list_input.specs.Input.{input_of}
use Rattle.list_line.specs.Writing.{Written}
use Rattle.list_lines.specs.Pieces.{cells_left}
use Rattle.list_sessions.specs.Sessions.{Outcome, no_input, refused_with, both, sessions_of, places_after, forward_after, reverse_after}
use Rattle.list_sessions.specs.declared.Sessions.{Sessions}
use Rattle.list_printed.specs.Output.{header_line, malformed_line, refused_line}
use Rattle.list_output.specs.declared.beginning.Begun.{Begun}

abbrev pub first_line : Outcome → List ℕ
first_line no_input = malformed_line
first_line (refused_with number) = refused_line number
first_line (both k size size') = header_line

-- the two sessions whose lines are still to be printed, where there are any
abbrev pub sessions_in : Outcome → Option Sessions
sessions_in no_input = None
sessions_in (refused_with number) = None
sessions_in (both k size size') = Some (record { k = k; size = size; reverse_size = size' })

-- the cells that remain and one more for each session, where two are opened; else nothing is left to print
abbrev pub left_of : Outcome → List ℕ → List ℕ → ℕ
left_of no_input forward reverse = 0
left_of (refused_with number) forward reverse = 0
left_of (both k size size') forward reverse = cells_left forward + cells_left reverse

-- the answer o of the calls, as `begin` hands it on
pub record BeginsWith (o : Outcome) (forward' reverse' out : List ℕ) (r : Begun) (out' : List ℕ) : Type 0 where
  pub first : Written (first_line o) 0 out out' r.written
  pub sessions_are : r.sessions ≡ sessions_in o
  pub left_is : r.left ≡ left_of o forward' reverse'

-- what `begin` answers and leaves
pub record Begins (bytes places forward reverse out : List ℕ) (r : Begun) (places' forward' reverse' out' : List ℕ) : Type 0 where
  pub begun : BeginsWith (sessions_of (input_of bytes) (length places) (length forward) (length reverse)) forward' reverse' out r out'
  pub positions_after : places' ≡ places_after (input_of bytes) places
  pub forward_after : forward' ≡ forward_after (input_of bytes) (length places) forward
  pub reverse_after : reverse' ≡ reverse_after (input_of bytes) (length places) (length forward) reverse
