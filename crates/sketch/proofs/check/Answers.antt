-- The checks come in the order of the definition: each refusal is what is answered past those before it.
use Rattle.std.proofs.Common.{sym, ◌∙◌}
use Rattle.sketch.proofs.Answering.{checked_k, checked_w, checked_many, checked_all}
use Rattle.sketch.proofs.check.Goals as goal

pub returns-then-outside-clause-reply : goal.returns-then-outside-clause-reply
returns-then-outside-clause-reply c = λ rest. checked_k _ _ _ rest (sym c.outside.ensures ∙ c.if-outside.true)

pub returns-then-outside-2-clause-reply : goal.returns-then-outside-2-clause-reply
returns-then-outside-2-clause-reply c =
    λ rest. checked_w _ _ _ rest (sym c.outside.ensures ∙ c.if-outside.false) (sym c.outside-2.ensures ∙ c.if-outside-2.true)

pub returns-then-letters-gt-LETTER_LIMIT-clause-reply : goal.returns-then-letters-gt-LETTER_LIMIT-clause-reply
returns-then-letters-gt-LETTER_LIMIT-clause-reply c =
    λ rest. checked_many _ _ _ rest (sym c.outside.ensures ∙ c.if-outside.false) (sym c.outside-2.ensures ∙ c.if-outside-2.false)
    c.if-letters-gt-LETTER_LIMIT.true

pub returns-clause-reply : goal.returns-clause-reply
returns-clause-reply c =
    λ rest. checked_all _ _ _ rest (sym c.outside.ensures ∙ c.if-outside.false) (sym c.outside-2.ensures ∙ c.if-outside-2.false)
    c.if-letters-gt-LETTER_LIMIT.false
