-- The top of the block and the start of the next one are read.
use Prim.Native.Nat.{ℕ, ◌+◌}
use native.Mathlib.Omega.{arith}
use mathlib.Core.Path.{◌≡◌, ◌∙◌}
use Rattle.session_cells.specs.Passing.{start_at, skipped}
use Rattle.session_cells.proofs.Passing.{greater_of}
use Rattle.session_cells.proofs.cells.skip.Goals as goal

next_start : (block : ℕ) → start_at block + 1 ≡ start_at (block + 1)
next_start block = omega arith

pub returns : goal.returns
unfolding skipped
returns g c = c.passed.ensures ∙ rw (c.rest_end.ensures, greater_of c.args.line _ c.requires.1 _ _ c.greater.ensures, next_start)
