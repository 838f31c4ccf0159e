-- `filling::fill_lines`: at each turn, what is written and what is left to print after the cells passed are together what was left to print before
-- the call. The measure is the room.
use Rattle.std.proofs.Common.{◌-◌, ◌≤◌, length}
use Rattle.list_lines.proofs.Going.{Going}
use Rattle.list_lines.proofs.filling.fill_lines.Given as goal

abbrev pub invariant-loop-out : goal.invariant-loop-out
invariant-loop-out l =
    (l.at ≤ length l.out) × Going l.fn.work l.listing.positions.now l.listing.k l.listing.size l.listing.strand l.found l.fn.out l.out l.work l.at l.count

abbrev pub decreases-loop-out : goal.decreases-loop-out
decreases-loop-out l = length l.out - l.at
