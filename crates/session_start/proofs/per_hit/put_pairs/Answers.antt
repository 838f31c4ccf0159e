-- `per_hit::put_pairs` meets its contract.
use Rattle.std.proofs.Common.{arith, refl, rules}
use Rattle.session_start.proofs.Reaching.{told_filled, told_next, told_end}
use Rattle.session_start.proofs.per_hit.put_pairs.Goals as goal

pub loop-j-init : goal.loop-j-init
loop-j-init c = λ p g all e. told_filled p g c.args.backs.now e c.fill.new.self _ c.requires.lengths.1 (c.fill.ensures.after (search rules))

pub loop-j-preserved : goal.loop-j-preserved
loop-j-preserved c =
    λ p g all e.
    told_next p g c.args.backs.now e all c.loop-j.reach c.put_pair.new.reach c.loop-j.j _ (omega arith) (omega arith) refl c.put_pair.ensures
    (c.loop-j.invariant p g all e)

pub returns : goal.returns
returns c =
    λ p g all e.
    told_end p g c.args.backs.now e c.loop-j.reach c.loop-j.j (omega arith) (omega arith) (omega arith) (c.loop-j.invariant p g all e)
