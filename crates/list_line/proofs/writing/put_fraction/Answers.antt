-- `writing::put_fraction` meets its contract: the three pieces written one after the other are the fraction, which fits 21 bytes.
use Rattle.std.proofs.Common.{arith}
use Rattle.list_line.proofs.Buffers.{same_bytes}
use Rattle.list_line.proofs.Pieces.{fraction}
use Rattle.list_line.proofs.writing.put_fraction.Goals as goal

pub slice_bounds-text-end : goal.slice_bounds-text-end
slice_bounds-text-end c =
    (fraction c.args.m c.args.divisor (omega arith) c.put_decimal-end.ensures c.put_byte-end.ensures c.put_decimal-end-2.ensures).inside

pub slice_bounds-put_bytes-end : goal.slice_bounds-put_bytes-end
slice_bounds-put_bytes-end c =
    (fraction c.args.m c.args.divisor (omega arith) c.put_decimal-end.ensures c.put_byte-end.ensures c.put_decimal-end-2.ensures).count

pub returns : goal.returns
returns c =
    same_bytes
    (fraction c.args.m c.args.divisor (omega arith) c.put_decimal-end.ensures c.put_byte-end.ensures c.put_decimal-end-2.ensures).part
    c.put_bytes.ensures
