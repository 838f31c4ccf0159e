-- What is left to walk gives the same answer and the same words as the whole. The measure is the number of columns and of cells left.
use Rattle.std.proofs.Common.{◌≡◌, ◌+◌, ◌≤◌, length}
use Rattle.base.specs.Limits.{work_words}
use Rattle.mapper.specs.Spots.{spot}
use Rattle.mapper.proofs.Walking.{walk_from}
use Rattle.mapper.proofs.walk.walk.Given as goal

abbrev pub invariant-loop-place : goal.invariant-loop-place
invariant-loop-place l = record {
  number : length l.work ≡ work_words;
  left_within : l.left ≤ l.budget;
  same_walk : walk_from l.small.terms l.budget (spot l.place) l.left l.work ≡ walk_from l.small.terms l.budget (spot l.fn.start) l.budget l.initial.work;
}

abbrev pub decreases-loop-place : goal.decreases-loop-place
decreases-loop-place l = l.place.columns + l.left
