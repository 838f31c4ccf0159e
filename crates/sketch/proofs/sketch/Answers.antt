-- The refusal of the check; the entries needed where a buffer is short of them; or the whole sketch, written by winnowing.
use Rattle.std.proofs.Common.{◌≡◌, ◌≤◌, ℕ, length, min, sym, ap, ◌∙◌, [], ◌∷◌, arith}
use Rattle.std.proofs.lemmas.Result.{err_from_is_err_and}
use Rattle.base.specs.Replies.{refused}
use Rattle.minimizers.specs.Sketch.{sketch}
use Rattle.minimizers.proofs.Laws.{sketch_length}
use Rattle.winnowing.proofs.Within.{winnowed_within}
use Rattle.sketch.specs.Replies.{sketch_reply}
use Rattle.sketch.proofs.Answering.{room_short, room_enough, sketches_refused, sketches_accepted}
use Rattle.sketch.proofs.sketch.Goals as goal
use Rattle.sketch.proofs.sketch.Goals.{then-room-letters+else-room-needed, else-room-letters}

pub returns-in_err-check : goal.returns-in_err-check
unfolding sketch_reply
returns-in_err-check c =
    let p = err_from_is_err_and c.from_residual.result c.from_residual.ensures.1 in
    rw (p.1, p.2) (sketches_refused _ _ _ _ _ _ (c.in_err-check.ensures.reply _))

pub returns-then-room-needed : goal.returns-then-room-needed
unfolding sketch_reply
returns-then-room-needed c =
    let a = c.args in
    let same = c.entries-needed.ensures in
    sketches_refused a.k a.w a.letters.now a.codes.now a.positions.now _
    (c.in_ok-check.ensures.reply _ ∙ room_short _ _ _ (omega arith) ∙ ap (λ (x : ℕ). refused 4 (x ∷ [])) (sym same))

pub returns : goal.returns
unfolding sketch_reply
returns c =
    let a = c.args in
    let letters = a.letters.now in
    let n : ℕ = length (sketch a.k a.w letters) in
    let least : c.smaller-room.result ≡ min (length a.codes.now) (length a.positions.now) = c.smaller-room.ensures in
    let limits = c.in_ok-check.ensures.inside in
    let fits : n ≤ c.smaller-room.result =
    elim c.if-room-letters.branch [
      | then-room-letters+else-room-needed w ↦ omega (arith, w.entries-needed.ensures)
      | else-room-letters w ↦ omega (arith, sketch_length a.k a.w letters limits.0)
    ] in
    sketches_accepted a.k a.w letters a.codes.now a.positions.now c.smaller-room.result c.winnow.result c.winnow.new.codes c.winnow.new.positions
    fits (omega arith) (omega arith)
    (c.winnow.ensures ∙ winnowed_within a.k a.w letters c.smaller-room.result a.codes.now a.positions.now limits (omega arith) (omega arith))
    (c.in_ok-check.ensures.reply _ ∙ room_enough n (length a.codes.now) (length a.positions.now) (omega arith))
