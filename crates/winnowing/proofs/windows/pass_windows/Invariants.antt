-- The window at hand has its lowest put, and what is put and what is still to pick make up what there was to pick at first.
use Rattle.std.proofs.Common.{suc, ◌+◌, ◌-◌, ◌≤◌, ◌≡◌}
use Rattle.kmers.specs.Places.{run_end}
use Rattle.winnowing.specs.Blocks.{block_size}
use Rattle.winnowing.proofs.Loops.{WindowsPut}
use Rattle.winnowing.proofs.windows.pass_windows.Given as goal

abbrev pub invariant-loop-rank : goal.invariant-loop-rank
invariant-loop-rank l =
    (l.p + l.last ≤ l.block.base + block_size)
    × (l.leaves ≡ l.low_at + l.measures.w + 1)
    × WindowsPut l.last l.block.base l.measures.w l.measures.room l.block.letters.now l.fn.reached.at l.fn.reached.lowest.at
    l.fn.reached.entries l.fn.codes l.fn.positions l.ranks l.p l.code l.low_at l.low l.n l.codes l.positions

abbrev pub decreases-loop-rank : goal.decreases-loop-rank
decreases-loop-rank l = suc (run_end l.block.letters.now l.fn.reached.at) - l.p
