-- What is left gives the same answer as the whole.
use Rattle.std.proofs.Common.{◌≡◌, ◌+◌, ◌≤◌, length}
use Rattle.sorting.specs.Searching.{halved, searched}
use Rattle.sorting.proofs.search.bisect.Given as goal

abbrev pub invariant-loop-left : goal.invariant-loop-left
invariant-loop-left l = (l.at + l.left ≤ length l.words) × (halved l.left l.words l.x l.at l.left ≡ searched l.words l.x)

abbrev pub decreases-loop-left : goal.decreases-loop-left
decreases-loop-left l = l.left
