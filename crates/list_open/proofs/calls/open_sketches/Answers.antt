-- `calls::open_sketches` meets its contract: the strike of the text, and then what is made of the read.
use Rattle.std.proofs.Common.{refl, sym}
use Rattle.std.specs.Prelude.{Err}
use Rattle.std.proofs.lemmas.Result.{err_from_is_err_and}
use lib.Seq.{length-take-le}
use Rattle.list_open.proofs.Sketches.{strike_made, strike_replied, positions_left, strike_accepts, strike_inside, strike_front}
use Rattle.list_open.proofs.Sketches.{text_struck_refused, text_struck}
use Rattle.list_open.proofs.calls.open_sketches.Goals as goal

pub returns-in_err-n : goal.returns-in_err-n
returns-in_err-n c =
    let p = err_from_is_err_and c.from_residual.result c.from_residual.ensures.1 in
    let s = c.in_err-n.ensures in
    let struck = strike_made _ _ _ _ _ _ (Err c.in_err-n.field-0.0) _ _ s.result_value s.codes_out_after s.positions_out_after in
    let long = c.copies-text.ensures.len in
    rw (p.1, p.2)
    (text_struck_refused _ _ _ _ _ _ _ _ (positions_left _ _ _ _ _ _ _ _ _ long refl _ struck) _ (strike_replied _ _ _ _ _ _ _ _ _ long refl _ struck))

pub slice_bounds-text-end : goal.slice_bounds-text-end
slice_bounds-text-end c =
    let s = c.in_ok-n.ensures in
    strike_inside _ _ _ _ _ _ _ _ _ c.copies-text.ensures.len refl _
    (strike_made _ _ _ _ _ _ _ _ _ s.result_value s.codes_out_after s.positions_out_after) c.strike.auto.codes_out

pub slice_bounds-open_pattern-end : goal.slice_bounds-open_pattern-end
slice_bounds-open_pattern-end c =
    let s = c.in_ok-n.ensures in
    sym
    (length-take-le _ _
    (strike_inside _ _ _ _ _ _ _ _ _ c.copies-text.ensures.len refl _
    (strike_made _ _ _ _ _ _ _ _ _ s.result_value s.codes_out_after s.positions_out_after) c.strike.auto.codes_out))

pub returns : goal.returns
returns c =
    let s = c.in_ok-n.ensures in
    let struck = strike_made _ _ _ _ _ _ _ _ _ s.result_value s.codes_out_after s.positions_out_after in
    let long = c.copies-text.ensures.len in
    text_struck _ _ _ _ _ _ _ _ (positions_left _ _ _ _ _ _ _ _ _ long refl _ struck) _ (strike_accepts _ _ _ _ _ _ _ _ _ long refl _ struck) _
    (strike_front _ _ _ _ _ _ _ _ _ long refl _ struck) _ _ c.open_pattern.ensures
