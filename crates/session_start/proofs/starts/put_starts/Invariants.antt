-- The loop over the rows, from the last one up: m of the row before, and the words of the blocks that begin there.
use Rattle.std.proofs.Common.{◌≡◌, ℕ, ◌+◌, ◌≤◌, List, length}
use Rattle.session_start.specs.Noting.{HoldsReach}
use Rattle.session_start.proofs.BlockStarts.{Begun}
use Rattle.session_start.proofs.starts.put_starts.Given as goal

abbrev pub invariant-loop-i : goal.invariant-loop-i
invariant-loop-i l =
    record {
      at_most : l.m + l.i ≤ l.h;
      begun : (p g : List ℕ) → length g ≡ l.h → HoldsReach p g l.fn.work → Begun p g l.h l.i l.m l.fn.work l.work;
    }
