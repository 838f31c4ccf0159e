-- `writing::write_line` meets its contract: the twelve pieces written one after the other are the line, which fits 68 bytes.
use Rattle.std.proofs.Common.{arith}
use Rattle.list_line.proofs.Buffers.{same_bytes, from_start}
use Rattle.list_line.proofs.Pieces.{pieces}
use Rattle.list_line.proofs.writing.write_line.Goals as goal

pub slice_bounds-text-end : goal.slice_bounds-text-end
slice_bounds-text-end c =
    (pieces c.args.first c.args.last c.args.score c.args.m c.args.per_mille c.args.strand (omega arith) c.sign.ensures
    c.put_decimal-at.ensures c.put_byte-at.ensures c.put_decimal-at-2.ensures c.put_byte-at-2.ensures
    c.put_score-at.ensures c.put_byte-at-3.ensures c.put_decimal-at-3.ensures c.put_byte-at-4.ensures
    c.put_decimal-at-4.ensures c.put_byte-at-5.ensures c.put_byte-at-6.ensures c.put_byte-at-7.ensures).inside

pub slice_bounds-put_bytes-end : goal.slice_bounds-put_bytes-end
slice_bounds-put_bytes-end c =
    (pieces c.args.first c.args.last c.args.score c.args.m c.args.per_mille c.args.strand (omega arith) c.sign.ensures
    c.put_decimal-at.ensures c.put_byte-at.ensures c.put_decimal-at-2.ensures c.put_byte-at-2.ensures
    c.put_score-at.ensures c.put_byte-at-3.ensures c.put_decimal-at-3.ensures c.put_byte-at-4.ensures
    c.put_decimal-at-4.ensures c.put_byte-at-5.ensures c.put_byte-at-6.ensures c.put_byte-at-7.ensures).count

pub returns : goal.returns
returns c =
    from_start
    (same_bytes
    (pieces c.args.first c.args.last c.args.score c.args.m c.args.per_mille c.args.strand (omega arith) c.sign.ensures
    c.put_decimal-at.ensures c.put_byte-at.ensures c.put_decimal-at-2.ensures c.put_byte-at-2.ensures
    c.put_score-at.ensures c.put_byte-at-3.ensures c.put_decimal-at-3.ensures c.put_byte-at-4.ensures
    c.put_decimal-at-4.ensures c.put_byte-at-5.ensures c.put_byte-at-6.ensures c.put_byte-at-7.ensures).part
    c.put_bytes.ensures)
