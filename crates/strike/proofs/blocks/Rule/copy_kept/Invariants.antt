-- What is counted and what is left come to all that is kept, and so do the words written and those still to be written behind them.
use Rattle.std.proofs.Common.{◌≡◌, ◌+◌, length}
use Rattle.std.specs.Iterator.Adapters.{zip_first, zip_second}
use Rattle.std.specs.Slice.Iter.{chunks_rest, chunks_size}
use Rattle.base.specs.Limits.{text_limit}
use Rattle.base.specs.Lists.{sum}
use Rattle.base.specs.Replies.{over}
use Rattle.marking.specs.Marks.{marks_of}
use Rattle.strike.specs.Marked.{marked_words}
use Rattle.strike.proofs.Behind.{behind}
use Rattle.strike.proofs.blocks.Rule.copy_kept.Given as goal

abbrev pub invariant-loop-block : goal.invariant-loop-block
invariant-loop-block l =
    let codes = chunks_rest (zip_first l.block-iterator) in
    let positions = chunks_rest (zip_second l.block-iterator) in
    let marks = marks_of l.self.deciding.now l.self.limit codes in
    let all = marks_of l.self.deciding.now l.self.limit l.codes in
    record {
      codes_size : chunks_size (zip_first l.block-iterator) ≡ text_limit;
      positions_size : chunks_size (zip_second l.block-iterator) ≡ text_limit;
      paired : length codes ≡ length positions;
      counted : l.at + sum marks ≡ sum all;
      codes_written : behind l.at (marked_words marks codes) l.codes_out ≡ over (marked_words all l.codes) l.initial.codes_out;
      positions_written : behind l.at (marked_words marks positions) l.positions_out ≡ over (marked_words all l.positions) l.initial.positions_out;
    }
