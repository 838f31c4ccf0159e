-- The entries that are left, with `low` for the next position, are storable exactly when all are.
use Rattle.std.proofs.Common.{◌≡◌, length}
use Rattle.std.specs.Slice.Iter.{iter_rest}
use Rattle.std.specs.Iterator.Adapters.{zip_first, zip_second}
use Rattle.kmers.specs.Kmers.{entries}
use Rattle.store.specs.Save.{storable}
use Rattle.store_save.proofs.entries.are_storable.Given as goal

abbrev pub invariant-loop-code : goal.invariant-loop-code
invariant-loop-code l =
    record {
      same_length : length (iter_rest (zip_first l.code-iterator)) ≡ length (iter_rest (zip_second l.code-iterator));
      same_answer :
          storable l.k l.low (entries (iter_rest (zip_first l.code-iterator)) (iter_rest (zip_second l.code-iterator)))
          ≡ storable l.k 0 (entries l.codes l.positions);
    }
