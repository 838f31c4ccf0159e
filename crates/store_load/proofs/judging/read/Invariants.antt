-- The codes and positions of i entries stand at the fronts of the two buffers, and those of the other entries are to come.
use Rattle.std.proofs.Common.{drop}
use Rattle.kmers.specs.Kmers.{codes as codes_of, positions as positions_of}
use Rattle.store.specs.Load.{judge, entries_of}
use Rattle.store.proofs.Filling.{Filling}
use Rattle.store_load.proofs.judging.read.Given as goal

abbrev pub invariant-loop-i : goal.invariant-loop-i
invariant-loop-i l =
    record {
      codes_filled : Filling (codes_of (entries_of (judge l.words))) l.fn.codes l.codes l.i (drop l.i (codes_of (entries_of (judge l.words))));
      positions_filled :
          Filling (positions_of (entries_of (judge l.words))) l.fn.positions l.positions l.i (drop l.i (positions_of (entries_of (judge l.words))));
    }
