-- The checks come in the order of the definition; then the entries needed where there is too little room, or those kept in both buffers.
use Rattle.std.proofs.Common.{sym, refl, ◌∙◌, arith}
use Rattle.std.proofs.lemmas.Result.{err_from_is_err_and}
use Rattle.base.specs.Lists.{sum}
use Rattle.base.specs.declared.refusal.Refusal.{Refusal}
use Rattle.marking.specs.Marks.{marks_of}
use Rattle.strike.proofs.Replies.{reply_unpaired, reply_many, reply_limit, reply_short, reply_kept, refused_leaves, kept_written}
use Rattle.strike.proofs.strike_read.Goals as goal

pub returns-then-codes-positions : goal.returns-then-codes-positions
returns-then-codes-positions c =
    let p = refused_leaves _ _ _ _ _ _ Refusal.BadEntries (reply_unpaired _ _ _ _ _ _ c.if-codes-positions.true) in
    record { result_value = p.0; codes_out_after = p.1; positions_out_after = p.2 }

pub returns-then-text-gt-TEXT_LIMIT : goal.returns-then-text-gt-TEXT_LIMIT
returns-then-text-gt-TEXT_LIMIT c =
    let p = refused_leaves _ _ _ _ _ _ Refusal.TooManyEntries (reply_many _ _ _ _ _ _ c.if-codes-positions.false c.if-text-gt-TEXT_LIMIT.true) in
    record { result_value = p.0; codes_out_after = p.1; positions_out_after = p.2 }

pub returns-then-outside : goal.returns-then-outside
returns-then-outside c =
    let limit = sym c.outside.ensures ∙ c.if-outside.true in
    let p = refused_leaves _ _ _ _ _ _ Refusal.BadLimit (reply_limit _ _ _ _ _ _ c.if-codes-positions.false c.if-text-gt-TEXT_LIMIT.false limit) in
    record { result_value = p.0; codes_out_after = p.1; positions_out_after = p.2 }

pub returns-in_err-check_room : goal.returns-in_err-check_room
returns-in_err-check_room c =
    let a = c.args in
    let limit = sym c.outside.ensures ∙ c.if-outside.false in
    let kept = sum (marks_of a.text.now a.c a.codes.now) in
    let lacks = c.in_err-check_room.ensures in
    let error = err_from_is_err_and c.from_residual.result c.from_residual.ensures.1 in
    let p = refused_leaves a.text.now a.codes.now a.positions.now a.c a.codes_out.now a.positions_out.now (Refusal.TooShort kept)
    (reply_short _ _ _ _ _ _ c.if-codes-positions.false c.if-text-gt-TEXT_LIMIT.false limit kept refl
    (omega (arith, lacks.1, c.smaller-room.ensures))) in
    record { result_value = rw (error.1, error.2, lacks.0) p.0; codes_out_after = p.1; positions_out_after = p.2 }

pub returns : goal.returns
returns c =
    let a = c.args in
    let limit = sym c.outside.ensures ∙ c.if-outside.false in
    let fits = c.in_ok-check_room.ensures in
    let p = kept_written a.text.now a.codes.now a.positions.now a.c a.codes_out.now a.positions_out.now c.if-codes-positions.false _ _ _
    (reply_kept _ _ _ _ _ _ c.if-codes-positions.false c.if-text-gt-TEXT_LIMIT.false limit c.copy_kept.result c.copy_kept.ensures.value
    (omega (arith, fits, c.smaller-room.ensures, c.copy_kept.ensures.value)))
    c.copy_kept.ensures.codes_out_after c.copy_kept.ensures.positions_out_after in
    record { result_value = p.0; codes_out_after = p.1; positions_out_after = p.2 }
