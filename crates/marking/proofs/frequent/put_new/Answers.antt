-- The word ends the list already, or is put at its end.
use Rattle.std.proofs.Common.{inl, inr}
use Rattle.marking.proofs.Ending.{ends_already, ends_now}
use Rattle.marking.proofs.frequent.put_new.Goals as goal
use Rattle.marking.proofs.frequent.put_new.Goals.{else-n-gt0-via-then-n-gt0+else-list-n, else-n-gt0-via-else-n-gt0}

pub returns-then-list-n-clause-list_after : goal.returns-then-list-n-clause-list_after
returns-then-list-n-clause-list_after c = ends_already c.args.word c.args.n c.args.list.now c.requires c.if-n-gt0.true c.if-list-n.true

pub returns-clause-list_after : goal.returns-clause-list_after
returns-clause-list_after c =
    ends_now c.args.word c.args.n c.args.list.now c.requires
    (elim c.else-n-gt0.branch [ else-n-gt0-via-then-n-gt0+else-list-n w ↦ inr w.if-list-n.false | else-n-gt0-via-else-n-gt0 w ↦ inl w.if-n-gt0.false ])
