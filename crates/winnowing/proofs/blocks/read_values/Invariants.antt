-- Each letter passed has its value in the block.
use Rattle.std.proofs.Common.{ℕ, ◌+◌, ◌<◌, ◌≡◌, get_or}
use Rattle.kmers.specs.Letters.{value}
use Rattle.winnowing.proofs.blocks.read_values.Given as goal

abbrev pub invariant-loop-i : goal.invariant-loop-i
invariant-loop-i l = (x : ℕ) → x < l.i → get_or l.values x 0 ≡ value (get_or l.letters (l.base + x) 0)
