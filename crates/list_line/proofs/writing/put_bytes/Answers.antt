-- `writing::put_bytes` meets its contract: the part of the buffer that takes the bytes has room for all of them.
use Rattle.std.proofs.Common.{arith}
use Rattle.list_line.proofs.Buffers.{kept_behind, kept_short, placed}
use Rattle.list_line.proofs.writing.put_bytes.Goals as goal

pub returns-then-at-out : goal.returns-then-at-out
returns-then-at-out c =
    grind (arith, kept_behind c.args.bytes.now c.args.at c.args.out.now, kept_short c.args.bytes.now c.args.at c.args.out.now)

pub returns : goal.returns
returns c =
    placed c.args.bytes.now c.args.at c.args.out.now c.copy_from_slice.ensures.after (omega arith) (omega arith)
