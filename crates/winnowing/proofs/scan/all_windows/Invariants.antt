-- The block at hand is passed, and what is put and what is still to pick make up what there was to pick at first.
use Rattle.std.proofs.Common.{suc, ◌-◌, length}
use Rattle.winnowing.proofs.Loops.{BlocksPassed, WindowsPut}
use Rattle.winnowing.proofs.scan.all_windows.Given as goal

abbrev pub invariant-loop-block : goal.invariant-loop-block
invariant-loop-block l =
    BlocksPassed l.last l.fn.block.letters.now l.block.letters.now l.block.base l.fn.reached.at l.s.at
    × WindowsPut l.last l.block.base l.measures.w l.measures.room l.fn.block.letters.now l.fn.reached.at l.fn.reached.lowest.at
    l.fn.reached.entries l.fn.codes l.fn.positions l.ranks l.s.at l.s.code l.s.lowest.at l.s.lowest.rank l.s.entries l.codes l.positions

abbrev pub decreases-loop-block : goal.decreases-loop-block
decreases-loop-block l = suc (length l.fn.block.letters.now) - l.block.base
