-- A word that stands `limit` places before itself is put into the list, and another is passed.
use Rattle.marking.proofs.Runs.{listed_none, listed_put, listed_pass, listed_all}
use Rattle.marking.proofs.frequent.list_runs.Goals as goal
use Rattle.marking.proofs.frequent.list_runs.Goals.{then-sorted-i, else-sorted-i}

pub loop-i-init : goal.loop-i-init
loop-i-init c = listed_none _ _ _

pub loop-i-preserved : goal.loop-i-preserved
loop-i-preserved c =
    let at = c.loop-i in
    let put = listed_put c.args.sorted.now c.requires.in_order c.args.limit at.i at.n at.list at.invariant c.loop-i-test.true in
    let pass = listed_pass c.args.sorted.now c.requires.in_order c.args.limit at.i at.n at.list at.invariant c.loop-i-test.true in
    elim c.if-sorted-i.branch [
      | then-sorted-i w ↦ rw (w.list-is, w.n-is) (put w.if-sorted-i.true _ _ w.put_new-n.ensures.bound w.put_new-n.ensures.list_after)
      | else-sorted-i w ↦ rw (w.list-is, w.n-is) (pass w.if-sorted-i.false)
    ]

pub returns-clause-listed : goal.returns-clause-listed
returns-clause-listed c = listed_all _ _ _ _ _ c.loop-i.invariant c.loop-i-test.false
