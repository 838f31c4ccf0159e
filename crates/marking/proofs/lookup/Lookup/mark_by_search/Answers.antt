-- The search ends at the word, at another or behind the list.
use Rattle.std.proofs.Common.{sym, ◌∙◌}
use Rattle.marking.proofs.Heads.{mark_at, mark_beyond, mark_other}
use Rattle.marking.proofs.lookup.Lookup.mark_by_search.Goals as goal

pub returns-in-Some : goal.returns-in-Some
returns-in-Some c =
    let seen = c.in-Some.ensures.lookup.3 in
    mark_at c.args.self.list.now _ _ seen.0 (sym (seen.1 0) ∙ c.if-found-word.true)

pub returns-in_default : goal.returns-in_default
returns-in_default c =
    let seen = c.in-Some.ensures.lookup.3 in
    mark_other _ c.args.self.in_order _ _ c.lower_bound.ensures (λ same. c.if-found-word.false (seen.1 0 ∙ same))

pub returns-in_default-2 : goal.returns-in_default-2
returns-in_default-2 c =
    mark_beyond _ c.args.self.in_order _ _ c.lower_bound.ensures (rw c.in_default.is at c.get.ensures.lookup.3)
