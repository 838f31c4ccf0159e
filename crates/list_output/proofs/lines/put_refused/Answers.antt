-- `lines::put_refused` meets its contract: the three pieces written one after the other are the line, which fits 32 bytes.
use Rattle.std.proofs.Common.{arith, ℕ, ◌≡◌, ◌≤◌, refl, sym, List, [], ◌∷◌, length, take, length-append}
use lib.Seq.{length-take-le}
use Rattle.base.specs.Bytes.{line_feed}
use Rattle.list_line.specs.Line.{decimal}
use Rattle.list_line.specs.Writing.{Written}
use Rattle.list_line.proofs.Buffers.{joined, same_bytes, start_index, start_part, start_length}
use Rattle.list_line.proofs.Decimal.{length_decimal}
use Rattle.list_printed.specs.Output.{refused_line}
use Rattle.list_output.proofs.lines.put_refused.Goals as goal

module _ (number : ℕ) {t0 t1 t2 t3 : List ℕ} {n1 n2 n3 : ℕ} (room : length t0 ≡ 32)
    (w1 : Written (114 ∷ 101 ∷ 102 ∷ 117 ∷ 115 ∷ 101 ∷ 100 ∷ 32 ∷ []) 0 t0 t1 n1) (w2 : Written (decimal number) n1 t1 t2 n2)
    (w3 : Written (line_feed ∷ []) n2 t2 t3 n3) where
  whole : Written (refused_line number) 0 t0 t3 n3
  whole =
      let a : length (decimal number) ≤ 10 = length_decimal number in
      joined (joined w1 w2 (simp length-append (omega arith))) w3 (simp length-append (omega arith))

  short : length (refused_line number) ≤ length t0
  short = let a : length (decimal number) ≤ 10 = length_decimal number in simp length-append (omega arith)

  inside : n3 ≤ length t3
  inside = omega (arith, start_index whole short, start_length whole short, short)

  part : take n3 t3 ≡ refused_line number
  part = start_part whole short

pub slice_bounds-text-end : goal.slice_bounds-text-end
slice_bounds-text-end c = inside c.args.number refl c.put_bytes-n.ensures c.put_decimal-n.ensures c.put_byte-n.ensures

pub slice_bounds-put_bytes-end-3 : goal.slice_bounds-put_bytes-end-3
slice_bounds-put_bytes-end-3 c =
    sym (length-take-le _ _ (inside c.args.number refl c.put_bytes-n.ensures c.put_decimal-n.ensures c.put_byte-n.ensures))

pub returns : goal.returns
returns c = same_bytes (part c.args.number refl c.put_bytes-n.ensures c.put_decimal-n.ensures c.put_byte-n.ensures) c.put_bytes.ensures
