-- The marked words passed stand at the start, and as many as are left to come have room.
use Rattle.std.proofs.Common.{◌-◌, ◌≤◌, length}
use Rattle.strike.proofs.Marked.{Copied}
use Rattle.strike.proofs.copying.copy_marked.Given as goal

abbrev pub invariant-loop-at : goal.invariant-loop-at
invariant-loop-at l = record { inside : l.i ≤ length l.marks; copied : Copied l.words l.marks l.n l.initial.out l.out l.i l.at }

abbrev pub decreases-loop-at : goal.decreases-loop-at
decreases-loop-at l = length l.marks - l.i
