-- `hits::collect` meets its contract.
use Rattle.std.proofs.Common.{arith}
use Rattle.sorting.proofs.Searching.{answer_bound}
use Rattle.session_start.proofs.Noting.{noting_more}
use Rattle.session_start.proofs.hits.collect.Goals as goal

pub overflow_cast-slot : goal.overflow_cast-slot
overflow_cast-slot c = omega (arith, (answer_bound _ _ _ c.lower_bound-slot.ensures c.args.sorted.in_order).within)

pub loop-i-preserved : goal.loop-i-preserved
loop-i-preserved c =
    let bound = answer_bound _ _ _ c.lower_bound-slot.ensures c.args.sorted.in_order in
    rw (c.note.ensures, c.note-in-loop-i.ensures, c.one_at.ensures.0)
    (noting_more _ _ c.args.sorted.in_order _ _ _ _ _ c.loop-i.invariant c.loop-i-test.true bound)
