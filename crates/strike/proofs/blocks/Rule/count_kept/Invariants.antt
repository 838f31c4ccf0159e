-- What is counted and what is left come to all that is kept.
use Rattle.std.proofs.Common.{◌≡◌, ◌+◌}
use Rattle.std.specs.Slice.Iter.{chunks_rest, chunks_size}
use Rattle.base.specs.Limits.{text_limit}
use Rattle.base.specs.Lists.{sum}
use Rattle.marking.specs.Marks.{marks_of}
use Rattle.strike.proofs.blocks.Rule.count_kept.Given as goal

abbrev pub invariant-loop-block : goal.invariant-loop-block
invariant-loop-block l =
    record {
      size : chunks_size l.block-iterator ≡ text_limit;
      counted : l.kept + sum (marks_of l.self.deciding.now l.self.limit (chunks_rest l.block-iterator))
          ≡ sum (marks_of l.self.deciding.now l.self.limit l.codes);
    }
