-- Word 0 and the words of i entries stand at the front of the buffer, and those of the other entries are to come.
use Rattle.std.proofs.Common.{◌+◌, ◌*◌, length, drop}
use Rattle.kmers.specs.Kmers.{entries}
use Rattle.store.specs.Save.{entry_words, stored}
use Rattle.store.proofs.Filling.{Filling}
use Rattle.store_save.proofs.entries.write.Given as goal

abbrev pub invariant-loop-i : goal.invariant-loop-i
invariant-loop-i l =
    Filling
    (stored l.k l.w (entries l.codes l.positions))
    l.fn.words
    l.words
    (2 * l.i + 1)
    (entry_words (length l.codes) (entries (drop l.i l.codes) (drop l.i l.positions)))
