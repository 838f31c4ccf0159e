-- What is left to pass gives the same answer and the same words as the whole.
use Prim.Native.Nat.{◌-◌, ◌≤◌}
use mathlib.Core.Path.{◌≡◌}
use Rattle.session_cells.specs.Passing.{pass_rows}
use Rattle.session_cells.proofs.rows.pass_rows.Given as goal

abbrev pub invariant-loop-next : goal.invariant-loop-next
invariant-loop-next g l =
    let first = l.fn.first in
    record {
      within : l.next.row ≤ l.to;
      same : pass_rows l.line (l.to - l.next.row) l.next.row l.next.m l.next.highest l.part
          ≡ pass_rows l.line (l.to - first.row) first.row first.m first.highest l.fn.part;
    }

abbrev pub decreases-loop-next : goal.decreases-loop-next
decreases-loop-next g l = l.to - l.next.row
