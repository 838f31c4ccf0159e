-- A block more is counted, and no more are kept than there are.
use Rattle.std.proofs.Common.{◌∙◌, arith}
use Rattle.std.specs.Slice.Iter.{chunks_rest}
use Rattle.strike.proofs.Behind.{kept_parts, kept_few}
use Rattle.strike.proofs.blocks.Rule.count_kept.Goals as goal

pub overflow_add-kept : goal.overflow_add-kept
overflow_add-kept c =
    let a = c.args in
    let steps = c.in-Some.ensures.steps in
    let rest = chunks_rest c.loop-block.block-iterator in
    let next = chunks_rest c.next.new.self in
    let parts = kept_parts a.self.deciding.now a.self.limit rest c.in-Some.block.now next steps.1.0 in
    omega (arith, parts, kept_few a.self.deciding.now a.self.limit a.codes.now, c.mark_block-kept.ensures.value, c.loop-block.invariant.counted)

pub loop-block-preserved : goal.loop-block-preserved
loop-block-preserved c =
    let a = c.args in
    let steps = c.in-Some.ensures.steps in
    let rest = chunks_rest c.loop-block.block-iterator in
    let next = chunks_rest c.next.new.self in
    let parts = kept_parts a.self.deciding.now a.self.limit rest c.in-Some.block.now next steps.1.0 in
    record {
      size = steps.0 ∙ c.loop-block.invariant.size;
      counted = omega (arith, parts, c.mark_block-kept.ensures.value, c.loop-block.invariant.counted);
    }
