-- `calls::open_pattern` meets its contract: the strike of the read and start, one after the other.
use Rattle.std.proofs.Common.{refl, sym, ap}
use Rattle.std.proofs.lemmas.Result.{err_from_is_err_and}
use Rattle.std.specs.Prelude.{ℕ, [], ◌∷◌, Ok, Err}
use lib.Seq.{length-take-le}
use Rattle.base.specs.Replies.{accepted}
use Rattle.list_open.proofs.Sketches.{strike_made, strike_accepts, strike_counts, strike_inside, strike_front, starts_with}
use Rattle.list_open.proofs.calls.open_pattern.Goals as goal

pub slice_bounds-pattern-end : goal.slice_bounds-pattern-end
slice_bounds-pattern-end c =
    let s = c.in_ok-size.ensures in
    strike_inside _ _ _ _ _ _ _ _ _ c.copies-pattern.ensures.len c.copies-unused.ensures.len _
    (strike_made _ _ _ _ _ _ _ _ _ s.result_value s.codes_out_after s.positions_out_after) c.strike_read.auto.codes_out

pub slice_bounds-start_scored-end : goal.slice_bounds-start_scored-end
slice_bounds-start_scored-end c =
    let s = c.in_ok-size.ensures in
    sym
    (length-take-le _ _
    (strike_inside _ _ _ _ _ _ _ _ _ c.copies-pattern.ensures.len c.copies-unused.ensures.len _
    (strike_made _ _ _ _ _ _ _ _ _ s.result_value s.codes_out_after s.positions_out_after) c.strike_read.auto.codes_out))

pub returns-in_err-start_scored : goal.returns-in_err-start_scored
returns-in_err-start_scored c =
    let p = err_from_is_err_and c.from_residual-in_err-start_scored.result c.from_residual-in_err-start_scored.ensures.1 in
    let s = c.in_ok-size.ensures in
    let struck = strike_made _ _ _ _ _ _ _ _ _ s.result_value s.codes_out_after s.positions_out_after in
    let long = c.copies-pattern.ensures.len in
    let long' = c.copies-unused.ensures.len in
    let start = c.in_err-start_scored.ensures in
    rw (p.1, p.2)
    (starts_with _ _ _ _ _ _ _ (strike_accepts _ _ _ _ _ _ _ _ _ long long' _ struck) _ (strike_front _ _ _ _ _ _ _ _ _ long long' _ struck)
    (Err c.in_err-start_scored.field-0.0) _
    start.result_value start.work_after _ refl)

pub returns : goal.returns
returns c =
    let s = c.in_ok-size.ensures in
    let struck = strike_made _ _ _ _ _ _ _ _ _ s.result_value s.codes_out_after s.positions_out_after in
    let long = c.copies-pattern.ensures.len in
    let long' = c.copies-unused.ensures.len in
    let start = c.in_ok-start_scored.ensures in
    starts_with _ _ _ _ _ _ _ (strike_accepts _ _ _ _ _ _ _ _ _ long long' _ struck) _ (strike_front _ _ _ _ _ _ _ _ _ long long' _ struck)
    (Ok c.in_ok-start_scored.field-0) _
    start.result_value start.work_after _ (ap (λ (j : ℕ). accepted (j ∷ [])) (strike_counts _ _ _ _ _ _ _ _ _ long long' _ struck))
