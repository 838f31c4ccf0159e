-- What the calls of both strands answer and leave, given an input.
use Rattle.std.specs.Prelude.{ℕ, ◌≡◌, List, length, Result, Ok, Err}
use Rattle.base.specs.Replies.{Reply, accepted, refused}
use Rattle.base.specs.Refusals.{refusal_number}
use Rattle.base.specs.declared.refusal.Refusal.{Refusal}
use Rattle.strands.specs.Complement.{reverse_complement}
use Rattle.requests.specs.Requests.{pattern_of}
use Rattle.list_input.specs.Input.{Input, malformed, given}
use Rattle.list_open.specs.Calls.{calls_reply}
use Rattle.list_open.specs.Opening.{positions_after, work_after, where_accepted}
use Rattle.list_sessions.specs.Calls.{strands_reply}
use Rattle.list_sessions.specs.declared.Sessions.{Sessions}
use Rattle.list_sessions.specs.declared.InputError.{InputError}

-- what the input comes to: it is malformed; or the number of the first call that refuses; or two sessions, with k and the number of entries of
-- each pattern
pub data Outcome : Type 0 where
  no_input : Outcome
  refused_with : ℕ → Outcome
  both : ℕ → ℕ → ℕ → Outcome

abbrev pub sessions_by : Reply → ℕ → ℕ → ℕ → Outcome
sessions_by (accepted values) k size size' = both k size size'
sessions_by (refused number values) k size size' = refused_with number

-- what the calls of both strands answer
abbrev pub calls_outcome : Result Sessions Refusal → Outcome
calls_outcome (Ok s) = both s.k s.size s.reverse_size
calls_outcome (Err refusal) = refused_with (refusal_number refusal)

-- and what is answered to an input
abbrev pub outcome_of : Result Sessions InputError → Outcome
outcome_of (Ok s) = both s.k s.size s.reverse_size
outcome_of (Err InputError.Malformed) = no_input
outcome_of (Err (InputError.Refused refusal)) = refused_with (refusal_number refusal)

-- given the room for positions and the numbers of work words of the two strands
unfoldable pub sessions_of : Input → ℕ → ℕ → ℕ → Outcome
sessions_of malformed room lent lent' = no_input
sessions_of (given s text read) room lent lent' =
    sessions_by (strands_reply s text read room lent lent') s.k (length (pattern_of s text read)) (length (pattern_of s text (reverse_complement read)))

-- the lent positions afterwards: those of the struck text are the same for both strands
unfoldable pub places_after : Input → List ℕ → List ℕ
places_after malformed places = places
places_after (given s text read) places = positions_after s text read places

-- the work words of the forward strand afterwards
unfoldable pub forward_after : Input → ℕ → List ℕ → List ℕ
forward_after malformed room work = work
forward_after (given s text read) room work = work_after s text read room work

-- those of the other strand: its calls are made where those of the forward one accept, with so many words
unfoldable pub reverse_after : Input → ℕ → ℕ → List ℕ → List ℕ
reverse_after malformed room lent work = work
reverse_after (given s text read) room lent work =
    where_accepted (calls_reply s text read room lent) (work_after s text (reverse_complement read) room work) work

-- what the calls of both strands answer and leave, given the lent positions and work words
pub record OpensBoth (input : Input) (places forward reverse : List ℕ) (o : Outcome) (places' forward' reverse' : List ℕ) : Type 0 where
  pub answer : o ≡ sessions_of input (length places) (length forward) (length reverse)
  pub positions_after : places' ≡ places_after input places
  pub forward_after : forward' ≡ forward_after input (length places) forward
  pub reverse_after : reverse' ≡ reverse_after input (length places) (length forward) reverse
