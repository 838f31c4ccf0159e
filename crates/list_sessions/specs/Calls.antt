-- The reply of the calls of both strands.
use Rattle.std.specs.Prelude.{ℕ, List}
use Rattle.base.specs.Replies.{Reply}
use Rattle.strands.specs.Complement.{reverse_complement}
use Rattle.requests.specs.declared.Settings.{Settings}
use Rattle.list_open.specs.Calls.{and_then, calls_reply}

-- the calls for the read, then those for its reverse complement; each strand has its own work words. If either is refused
-- so is the run, with the forward read's number if both are
unfoldable pub strands_reply : Settings → List ℕ → List ℕ → ℕ → ℕ → ℕ → Reply
strands_reply s text read room lent lent' = and_then (calls_reply s text read room lent) (calls_reply s text (reverse_complement read) room lent')
