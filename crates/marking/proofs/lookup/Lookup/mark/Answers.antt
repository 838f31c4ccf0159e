-- No head is noted for a slot without words of the list, and a head that is the word shows that it is of the list.
use Rattle.std.proofs.Common.{arith}
use Rattle.marking.proofs.Heads.{mark_at, mark_no_head}
use Rattle.marking.proofs.lookup.Lookup.mark.Goals as goal

pub returns-then-head-eq0 : goal.returns-then-head-eq0
returns-then-head-eq0 c =
    let lookup = c.args.self in
    mark_no_head _ lookup.in_order _ _ _ lookup.noted c.slot.ensures.value c.if-head-eq0.true

pub returns-then-self-head : goal.returns-then-self-head
returns-then-self-head c = mark_at c.args.self.list.now _ _ (omega (arith, c.args.self.noted.within _ c.slot.ensures.bound)) c.if-self-head.true
