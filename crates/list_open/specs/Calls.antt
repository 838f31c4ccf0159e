-- The replies of the calls in their order.
use Rattle.std.specs.Prelude.{ℕ, List}
use Rattle.base.specs.Replies.{Reply, accepted, refused}
use Rattle.kmers.specs.Kmers.{Entry, codes, positions}
use Rattle.minimizers.specs.Sketch.{sketch}
use Rattle.sketch.specs.Replies.{sketch_reply}
use Rattle.strike.specs.Strike.{strike_reply}
use Rattle.session_start.specs.Start.{start_reply}
use Rattle.base.specs.Limits.{line_limit}
use Rattle.requests.specs.declared.Settings.{Settings}
use Rattle.requests.specs.Requests.{task_of}

-- the first call's refusal; where it accepts, what the next one answers
abbrev pub and_then : Reply → Reply → Reply
and_then (accepted values) next = next
and_then (refused number values) next = refused number values

-- what striking these entries answers, where the codes of the text's entries decide
abbrev pub striking_of : List Entry → List Entry → ℕ → ℕ → Reply
striking_of text es c room = strike_reply (codes text) (codes es) (positions es) c line_limit room

-- the calls run in this order: sketch of the text, sketch of the read, strike, strike of the read, start. Each buffer of `maplist` has a
-- place for each letter; `room` is that of the buffer for the struck text's positions, `lent` the number of work words
unfoldable pub sketches_reply : Settings → List ℕ → List ℕ → Reply
sketches_reply s text read = and_then (sketch_reply s.k s.w text line_limit line_limit) (sketch_reply s.k s.w read line_limit line_limit)

unfoldable pub striking_reply : Settings → List ℕ → List ℕ → ℕ → Reply
striking_reply s text read room =
    and_then (sketches_reply s text read) (striking_of (sketch s.k s.w text) (sketch s.k s.w text) s.c room)

unfoldable pub pattern_reply : Settings → List ℕ → List ℕ → ℕ → Reply
pattern_reply s text read room =
    and_then (striking_reply s text read room) (striking_of (sketch s.k s.w text) (sketch s.k s.w read) s.c line_limit)

unfoldable pub calls_reply : Settings → List ℕ → List ℕ → ℕ → ℕ → Reply
calls_reply s text read room lent = and_then (pattern_reply s text read room) (start_reply (task_of s text read) lent)
