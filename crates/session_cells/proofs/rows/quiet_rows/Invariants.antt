-- What is left to pass gives the same answer as the whole.
use Prim.Native.Nat.{◌-◌}
use mathlib.Core.Path.{◌≡◌}
use Rattle.session_cells.specs.Pausing.{quiet_rows}
use Rattle.session_cells.proofs.rows.quiet_rows.Given as goal

abbrev pub invariant-loop-i : goal.invariant-loop-i
invariant-loop-i g l =
    let first = l.fn.next in
    quiet_rows l.line (l.to - l.i) l.i l.m (g.S.Seen.word l.seen) l.part
    ≡ quiet_rows l.line (l.to - first.row) first.row first.m first.highest l.part
