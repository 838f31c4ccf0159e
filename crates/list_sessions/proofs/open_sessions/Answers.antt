-- `open_sessions` meets its contract: what stands in the input, and then the calls of both strands.
use Rattle.std.proofs.lemmas.Result.{err_from_is_err_and}
use Rattle.list_sessions.proofs.Requests.{part_short, none_of, opens_malformed, lines_inside, opens_given}
use Rattle.list_sessions.proofs.open_sessions.Goals as goal

pub returns-in_default : goal.returns-in_default
returns-in_default c = opens_malformed _ _ c.read_input.ensures (none_of _ c.in_default.not-Some) _ _ _

pub slice_bounds-text-count : goal.slice_bounds-text-count
slice_bounds-text-count c = (lines_inside _ _ c.read_input.ensures _ c.in-Some.is).text_order

pub slice_bounds-text-start : goal.slice_bounds-text-start
slice_bounds-text-start c = (lines_inside _ _ c.read_input.ensures _ c.in-Some.is).text_order

pub slice_bounds-text-end : goal.slice_bounds-text-end
slice_bounds-text-end c = (lines_inside _ _ c.read_input.ensures _ c.in-Some.is).text_inside

pub slice_bounds-read-count : goal.slice_bounds-read-count
slice_bounds-read-count c = (lines_inside _ _ c.read_input.ensures _ c.in-Some.is).read_order

pub slice_bounds-read-start : goal.slice_bounds-read-start
slice_bounds-read-start c = (lines_inside _ _ c.read_input.ensures _ c.in-Some.is).read_order

pub slice_bounds-read-end : goal.slice_bounds-read-end
slice_bounds-read-end c = (lines_inside _ _ c.read_input.ensures _ c.in-Some.is).read_inside

pub open_both-requires : goal.open_both-requires
open_both-requires c = part_short _ _ _ _ (lines_inside _ _ c.read_input.ensures _ c.in-Some.is).read_short

pub returns-in_err-sessions : goal.returns-in_err-sessions
returns-in_err-sessions c =
    let p = err_from_is_err_and c.from_residual.result c.from_residual.ensures.1 in
    rw (p.1, p.2) (opens_given _ _ c.read_input.ensures _ c.in-Some.is _ _ _ _ _ _ _ c.in_err-sessions.ensures)

pub returns : goal.returns
returns c = opens_given _ _ c.read_input.ensures _ c.in-Some.is _ _ _ _ _ _ _ c.in_ok-sessions.ensures
