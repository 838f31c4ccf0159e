-- Its two tests are those of the definition.
use Prim.Native.Nat.{ℕ, ◌-◌, ◌≤◌}
use native.Mathlib.Omega.{arith}
use mathlib.Core.Path.{◌≡◌, ap, ◌∙◌}
use mathlib.Core.Bool.{not}
use mathlib.Core.List.{List}
use borrow.Author.Tests.{le-leb, lt-leb}
use lib.ListN.{get_or}
use Rattle.session_cells.specs.declared.cells.Line.{Line}
use Rattle.session_cells.specs.Passing.{matters, rest_end, skips}
use Rattle.session_cells.proofs.cells.is_skipped.Goals as goal

-- where the rest of the block ends within the rows, the bound decides
by_bound : (line : Line) (to row m highest end : ℕ) (part : List ℕ) → end ≡ rest_end line row → end ≤ to
    → not (matters line highest m (get_or part (end - 1) 0)) ≡ skips line to row m highest part
unfolding skips
by_bound line to row m highest end part e l = rw (← e, le-leb end to l)

pub overflow_sub-end : goal.overflow_sub-end
unfolding rest_end
overflow_sub-end g c = omega (arith, c.rest_end-end.ensures)

pub returns-then-end-to : goal.returns-then-end-to
returns-then-end-to g c =
    let args = c.args in
    let next = args.next in
    let reached = rw c.of.ensures at c.is_reached.ensures in
    ap not reached
    ∙ by_bound args.line args.to next.row next.m next.highest _ args.part.now c.rest_end-end.ensures c.if-end-to.true

pub returns-else-end-to : goal.returns-else-end-to
unfolding skips
returns-else-end-to g c = simp (← c.rest_end-end.ensures, lt-leb _ _ c.if-end-to.false)
