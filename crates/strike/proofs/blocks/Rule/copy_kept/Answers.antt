-- A block more is copied behind those before it, and no more are kept than there is room for.
use Rattle.std.proofs.Common.{◌≡◌, length, ◌∙◌, sym, refl, arith}
use Rattle.std.specs.Iterator.Adapters.{zip_first, zip_second}
use Rattle.std.specs.Slice.Iter.{chunks_rest}
use Rattle.strike.proofs.Behind.{kept_parts, kept_few, copied_block, rests_paired, room_left}
use Rattle.strike.proofs.blocks.Rule.copy_kept.Goals as goal

pub copy_block-at-requires-clause-codes_in_bounds : goal.copy_block-at-requires-clause-codes_in_bounds
copy_block-at-requires-clause-codes_in_bounds c =
    let a = c.args in
    let rest = chunks_rest (zip_first c.loop-block.block-iterator) in
    let next = chunks_rest (zip_first c.next.new.self) in
    let parts = kept_parts a.self.deciding.now a.self.limit rest c.in-Some.block.now next c.in-Some.ensures.steps.0.1.0 in
    let held = c.loop-block.invariant.counted in (
      room_left c.loop-block.at _ c.loop-block.codes_out (omega (arith, parts, held)),
      room_left c.loop-block.at _ c.loop-block.positions_out (omega (arith, parts, held)),
    )

pub overflow_add-at : goal.overflow_add-at
overflow_add-at c =
    let a = c.args in
    let rest = chunks_rest (zip_first c.loop-block.block-iterator) in
    let next = chunks_rest (zip_first c.next.new.self) in
    let parts = kept_parts a.self.deciding.now a.self.limit rest c.in-Some.block.now next c.in-Some.ensures.steps.0.1.0 in
    omega (arith, parts, kept_few a.self.deciding.now a.self.limit a.codes.now, c.copy_block-at.ensures.value, c.loop-block.invariant.counted)

pub loop-block-preserved : goal.loop-block-preserved
loop-block-preserved c =
    let a = c.args in
    let held = c.loop-block.invariant in
    let steps = c.in-Some.ensures.steps in
    let block = c.in-Some.block.now in
    let places = c.in-Some.places.now in
    let rest = chunks_rest (zip_first c.loop-block.block-iterator) in
    let others = chunks_rest (zip_second c.loop-block.block-iterator) in
    let next = chunks_rest (zip_first c.next.new.self) in
    let behind = chunks_rest (zip_second c.next.new.self) in
    let parts = kept_parts a.self.deciding.now a.self.limit rest block next steps.0.1.0 in
    let same : length block ≡ length places = omega (arith, steps.0.1.1, steps.1.1.1, held.codes_size, held.positions_size, held.paired) in
    let n = c.copy_block-at.ensures.value in
    record {
      codes_size = steps.0.0 ∙ held.codes_size;
      positions_size = steps.1.0 ∙ held.positions_size;
      paired = rests_paired rest block next others places behind steps.0.1.0 steps.1.1.0 held.paired same;
      counted = omega (arith, parts, n, held.counted);
      codes_written = copied_block a.self.deciding.now a.self.limit rest block next rest block next c.loop-block.codes_out c.copy_block-at.new.codes_out
          c.loop-block.at c.copy_block-at.result steps.0.1.0 steps.0.1.0 refl n (omega (arith, parts, n, held.counted))
          c.copy_block-at.ensures.codes_out_after
          ∙ held.codes_written;
      positions_written = copied_block a.self.deciding.now a.self.limit rest block next others places behind c.loop-block.positions_out
          c.copy_block-at.new.positions_out c.loop-block.at c.copy_block-at.result steps.0.1.0 steps.1.1.0 (sym same) n
          (omega (arith, parts, n, held.counted)) c.copy_block-at.ensures.positions_out_after
          ∙ held.positions_written;
    }
