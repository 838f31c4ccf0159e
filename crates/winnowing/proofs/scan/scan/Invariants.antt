-- What is put and the sketch of the letters from the next run on end as the whole sketch does.
use Rattle.std.proofs.Common.{length}
use Rattle.winnowing.proofs.Loops.{NextPut, left}
use Rattle.winnowing.proofs.scan.scan.Given as goal

abbrev pub invariant-loop-next : goal.invariant-loop-next
invariant-loop-next l =
    NextPut l.k l.w l.room l.letters l.block.letters.now l.block.base l.next l.entries l.fn.codes l.fn.positions l.codes l.positions

abbrev pub decreases-loop-next : goal.decreases-loop-next
decreases-loop-next l = left (length l.letters) l.next
