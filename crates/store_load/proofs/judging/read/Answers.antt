-- One turn reads the two words of an entry.
use Rattle.std.proofs.Common.{◌<◌, length, refl, add-one, arith}
use Rattle.std.proofs.Math.Seq.{drop-cons}
use Rattle.kmers.specs.Kmers.{codes as codes_of, positions as positions_of}
use Rattle.kmers.proofs.Entries.{length_codes, length_positions}
use Rattle.store.specs.Load.{judge, entries_of}
use Rattle.store.proofs.RoundTrip.{loaded_at, length_loaded}
use Rattle.store.proofs.Filling.{fill_next}
use Rattle.store_load.proofs.judging.read.Goals as goal

pub bounds-words-i : goal.bounds-words-i
bounds-words-i c =
    let ws = c.args.words.now in
    omega (arith, length_loaded ws (entries_of (judge ws)) c.requires.words_value)

pub bounds-words-i-in-loop-i : goal.bounds-words-i-in-loop-i
bounds-words-i-in-loop-i c =
    let ws = c.args.words.now in
    omega (arith, length_loaded ws (entries_of (judge ws)) c.requires.words_value)

pub loop-i-preserved : goal.loop-i-preserved
loop-i-preserved c =
    let i = c.loop-i.i in
    let ws = c.args.words.now in
    let es = entries_of (judge ws) in
    let in_codes : i < length (codes_of es) = omega (arith, length_codes es) in
    let in_positions : i < length (positions_of es) = omega (arith, length_positions es) in
    let in_entries : i < length es = omega arith in
    let read = loaded_at ws es c.requires.words_value i in_entries in
    record {
      codes_filled =
          rw (add-one i, c.content.ensures, read.0)
          (fill_next refl (omega arith) (rw (drop-cons (codes_of es) i 0 in_codes) at c.loop-i.invariant.codes_filled));
      positions_filled =
          rw (add-one i, c.content-in-loop-i.ensures, read.1)
          (fill_next refl (omega arith) (rw (drop-cons (positions_of es) i 0 in_positions) at c.loop-i.invariant.positions_filled));
    }
