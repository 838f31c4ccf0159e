-- `writing::put_signed` meets its contract: the digits alone, or behind a minus those of the absolute value.
use Rattle.std.proofs.Common.{arith, ap, ◌∙◌, ◌∷◌, ℕ}
use mir.Syntax.{w32}
use mir.Val.{to_z, of_z}
use mir.Facts.{to_z-of_z}
use Rattle.base.specs.Bytes.{minus}
use Rattle.list_line.specs.Line.{decimal, signed}
use Rattle.list_line.proofs.Buffers.{same_bytes}
use Rattle.list_line.proofs.Decimal.{signed_above, signed_below}
use Rattle.list_line.proofs.Pieces.{below_zero}
use Rattle.list_line.proofs.writing.put_signed.Goals as goal

pub returns-then-z-ge0 : goal.returns-then-z-ge0
returns-then-z-ge0 c =
    same_bytes (signed_above (to_z w32 (of_z w32 c.args.z)) c.if-z-ge0.true ∙ ap signed (to_z-of_z c.ranges.z)) c.put_decimal.ensures

pub slice_bounds-text-end : goal.slice_bounds-text-end
slice_bounds-text-end c = (below_zero c.unsigned_abs.result (omega arith) c.put_byte-end.ensures c.put_decimal-end.ensures).inside

pub slice_bounds-put_bytes-end : goal.slice_bounds-put_bytes-end
slice_bounds-put_bytes-end c = (below_zero c.unsigned_abs.result (omega arith) c.put_byte-end.ensures c.put_decimal-end.ensures).count

pub returns : goal.returns
returns c =
    same_bytes
    ((below_zero c.unsigned_abs.result (omega arith) c.put_byte-end.ensures c.put_decimal-end.ensures).part
    ∙ ap (λ (n : ℕ). minus ∷ decimal n) c.unsigned_abs.ensures.value
    ∙ signed_below (to_z w32 (of_z w32 c.args.z)) c.if-z-ge0.false
    ∙ ap signed (to_z-of_z c.ranges.z))
    c.put_bytes.ensures
