-- `calls::open` meets its contract: the two sketches, and then what is made of them.
use Rattle.std.proofs.Common.{sym}
use Rattle.std.proofs.lemmas.Result.{err_from_is_err_and}
use lib.Seq.{length-take-le}
use Rattle.list_open.proofs.Letters.{sketch_replied, sketch_accepts, codes_hold, places_hold, codes_front, positions_front}
use Rattle.list_open.proofs.Letters.{text_refused, read_refused, opens_fronts}
use Rattle.list_open.proofs.calls.open.Goals as goal

pub returns-in_err-n : goal.returns-in_err-n
returns-in_err-n c =
    let p = err_from_is_err_and c.from_residual.result c.from_residual.ensures.1 in
    rw (p.1, p.2)
    (text_refused _ _ _ _ _ _ (sketch_replied _ _ _ _ _ _ _ c.copies-codes.ensures.len c.copies-places.ensures.len _ c.in_err-n.ensures))

pub returns-in_err-read_n : goal.returns-in_err-read_n
returns-in_err-read_n c =
    let p = err_from_is_err_and c.from_residual-in_err-read_n.result c.from_residual-in_err-read_n.ensures.1 in
    rw (p.1, p.2)
    (read_refused _ _ _ _ _ _
    (sketch_accepts _ _ _ _ _ _ _ c.copies-codes.ensures.len c.copies-places.ensures.len _ c.in_ok-n.ensures) _
    (sketch_replied _ _ _ _ _ _ _ c.copies-read_codes.ensures.len c.copies-read_places.ensures.len _ c.in_err-read_n.ensures))

pub slice_bounds-codes-end : goal.slice_bounds-codes-end
slice_bounds-codes-end c =
    codes_hold _ _ _ _ _ _ _ c.copies-codes.ensures.len c.copies-places.ensures.len _ c.in_ok-n.ensures c.sketch.auto.codes

pub slice_bounds-open_sketches-end : goal.slice_bounds-open_sketches-end
slice_bounds-open_sketches-end c =
    sym
    (length-take-le _ _
    (codes_hold _ _ _ _ _ _ _ c.copies-codes.ensures.len c.copies-places.ensures.len _ c.in_ok-n.ensures c.sketch.auto.codes))

pub slice_bounds-places-end : goal.slice_bounds-places-end
slice_bounds-places-end c =
    places_hold _ _ _ _ _ _ _ c.copies-codes.ensures.len c.copies-places.ensures.len _ c.in_ok-n.ensures c.sketch.auto.positions

pub slice_bounds-open_sketches-end-2 : goal.slice_bounds-open_sketches-end-2
slice_bounds-open_sketches-end-2 c =
    sym
    (length-take-le _ _
    (places_hold _ _ _ _ _ _ _ c.copies-codes.ensures.len c.copies-places.ensures.len _ c.in_ok-n.ensures c.sketch.auto.positions))

pub slice_bounds-read_codes-end : goal.slice_bounds-read_codes-end
slice_bounds-read_codes-end c =
    codes_hold _ _ _ _ _ _ _ c.copies-read_codes.ensures.len c.copies-read_places.ensures.len _ c.in_ok-read_n.ensures c.sketch-2.auto.codes

pub slice_bounds-open_sketches-end-3 : goal.slice_bounds-open_sketches-end-3
slice_bounds-open_sketches-end-3 c =
    sym
    (length-take-le _ _
    (codes_hold _ _ _ _ _ _ _ c.copies-read_codes.ensures.len c.copies-read_places.ensures.len _ c.in_ok-read_n.ensures
    c.sketch-2.auto.codes))

pub slice_bounds-read_places-end : goal.slice_bounds-read_places-end
slice_bounds-read_places-end c =
    places_hold _ _ _ _ _ _ _ c.copies-read_codes.ensures.len c.copies-read_places.ensures.len _ c.in_ok-read_n.ensures
    c.sketch-2.auto.positions

pub slice_bounds-open_sketches-end-4 : goal.slice_bounds-open_sketches-end-4
slice_bounds-open_sketches-end-4 c =
    sym
    (length-take-le _ _
    (places_hold _ _ _ _ _ _ _ c.copies-read_codes.ensures.len c.copies-read_places.ensures.len _ c.in_ok-read_n.ensures
    c.sketch-2.auto.positions))

pub returns : goal.returns
returns c =
    let long = c.copies-codes.ensures.len in
    let long' = c.copies-places.ensures.len in
    let read_long = c.copies-read_codes.ensures.len in
    let read_long' = c.copies-read_places.ensures.len in
    let of_text = c.in_ok-n.ensures in
    let of_read = c.in_ok-read_n.ensures in
    opens_fronts _ _ _ _ _ _
    (sketch_accepts _ _ _ _ _ _ _ long long' _ of_text) _
    (sketch_accepts _ _ _ _ _ _ _ read_long read_long' _ of_read) _ _ _ _
    (codes_front _ _ _ _ _ _ _ long long' _ of_text)
    (positions_front _ _ _ _ _ _ _ long long' _ of_text)
    (codes_front _ _ _ _ _ _ _ read_long read_long' _ of_read)
    (positions_front _ _ _ _ _ _ _ read_long read_long' _ of_read) _ _ _ c.open_sketches.ensures
