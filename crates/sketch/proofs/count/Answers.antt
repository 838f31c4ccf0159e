-- The refusal of the check, or the number of entries behind it.
use Rattle.std.proofs.Common.{arith, sym, ap, ◌∙◌, [], ◌∷◌}
use Rattle.std.proofs.lemmas.Result.{err_from_is_err_and}
use Rattle.base.specs.Replies.{accepted}
use Rattle.minimizers.proofs.Laws.{sketch_length}
use Rattle.sketch.specs.Replies.{count_reply}
use Rattle.sketch.proofs.count.Goals as goal

pub returns-in_err-check-clause-reply : goal.returns-in_err-check-clause-reply
unfolding count_reply
returns-in_err-check-clause-reply c =
    let p = err_from_is_err_and c.from_residual.result c.from_residual.ensures.1 in
    rw (p.1, p.2) (sym (c.in_err-check.ensures.reply _))

pub returns-clause-reply : goal.returns-clause-reply
unfolding count_reply
returns-clause-reply c = sym (c.in_ok-check.ensures.reply _ ∙ ap (λ n. accepted (n ∷ [])) (sym c.entries.ensures))

pub returns-clause-within : goal.returns-clause-within
returns-clause-within c =
    let a = c.args in
    let limits = c.in_ok-check.ensures.inside in
    omega (arith, c.entries.ensures, sketch_length a.k a.w a.letters.now limits.0)
