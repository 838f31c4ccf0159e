-- `filling::fill` meets its contract: which piece comes next is told by what is left of the two sessions.
use Rattle.std.proofs.Common.{arith, ◌+◌}
use mathlib.Core.Path.{ap₂}
use Rattle.list_output.proofs.Turns.{few_passed, fills_last}
use Rattle.list_output.proofs.filling.fill.Goals as goal

pub overflow_add-cells_passed : goal.overflow_add-cells_passed
overflow_add-cells_passed c =
    let few = few_passed _ _ c.cells_left-ahead.ensures c.if-ahead-eq0.false in
    let few' = few_passed _ _ c.cells_left-behind.ensures c.if-behind-eq0.false in
    omega (arith, c.cells_passed.ensures, c.cells_passed-2.ensures)

pub returns : goal.returns
returns c =
    fills_last _ _ _ _ _ _ _ _ _ _ c.cells_left-ahead.ensures c.cells_left-behind.ensures _ c.if-ahead-eq0.false c.if-behind-eq0.false _ _
    c.if-ahead-gt1.false c.if-behind-gt1.false (ap₂ ◌+◌ c.cells_passed.ensures c.cells_passed-2.ensures) c.fill_last.auto.out
    c.fill_last.ensures
