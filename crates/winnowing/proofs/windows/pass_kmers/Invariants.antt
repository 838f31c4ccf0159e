-- What is put and what is still to pick make up all there was to pick.
use Rattle.winnowing.proofs.Loops.{KmersPut}
use Rattle.winnowing.proofs.windows.pass_kmers.Given as goal

abbrev pub invariant-loop-at : goal.invariant-loop-at
invariant-loop-at l =
    KmersPut l.last l.measures.room l.block.letters.now l.fn.reached.at l.fn.reached.entries l.fn.codes l.fn.positions
    l.at l.code l.entries l.codes l.positions
