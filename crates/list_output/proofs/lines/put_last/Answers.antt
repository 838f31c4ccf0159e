-- `lines::put_last` meets its contract: the five pieces written one after the other are the last line, which fits 64 bytes.
use Rattle.std.proofs.Common.{arith, ℕ, ◌≡◌, ◌≤◌, refl, sym, List, [], ◌∷◌, append_assoc, length, take, length-append}
use lib.Seq.{length-take-le}
use Rattle.base.specs.Bytes.{line_feed}
use Rattle.list_line.specs.Line.{decimal}
use Rattle.list_line.specs.Writing.{Written}
use Rattle.list_line.proofs.Buffers.{joined, same_bytes, start_index, start_part, start_length}
use Rattle.list_line.proofs.Decimal.{length_decimal}
use Rattle.list_printed.specs.Output.{last_line}
use Rattle.list_output.proofs.lines.put_last.Goals as goal

length_last : (found cells : ℕ) → length (last_line found cells) ≤ 64
unfolding last_line
length_last found cells =
    let a : length (decimal found) ≤ 10 = length_decimal found in
    let b : length (decimal cells) ≤ 10 = length_decimal cells in
    simp length-append (omega arith)

module _ (found cells : ℕ) {t0 t1 t2 t3 t4 t5 : List ℕ} {n1 n2 n3 n4 n5 : ℕ} (room : length t0 ≡ 64)
    (w1 : Written (102 ∷ 111 ∷ 117 ∷ 110 ∷ 100 ∷ 32 ∷ []) 0 t0 t1 n1) (w2 : Written (decimal found) n1 t1 t2 n2)
    (w3 : Written (32 ∷ 99 ∷ 101 ∷ 108 ∷ 108 ∷ 115 ∷ 32 ∷ []) n2 t2 t3 n3) (w4 : Written (decimal cells) n3 t3 t4 n4)
    (w5 : Written (line_feed ∷ []) n4 t4 t5 n5) where
  whole : Written (last_line found cells) 0 t0 t5 n5
  unfolding last_line
  whole =
      let a : length (decimal found) ≤ 10 = length_decimal found in
      let b : length (decimal cells) ≤ 10 = length_decimal cells in
      let x2 = joined w1 w2 (simp length-append (omega arith)) in
      let x3 = joined x2 w3 (simp length-append (omega arith)) in
      let x4 = joined x3 w4 (simp length-append (omega arith)) in
      same_bytes (simp append_assoc) (joined x4 w5 (simp length-append (omega arith)))

  short : length (last_line found cells) ≤ length t0
  short = omega (arith, length_last found cells)

  inside : n5 ≤ length t5
  inside = omega (arith, start_index whole short, start_length whole short, short)

  part : take n5 t5 ≡ last_line found cells
  part = start_part whole short

pub slice_bounds-text-end : goal.slice_bounds-text-end
slice_bounds-text-end c =
    inside c.args.found c.args.cells refl c.put_bytes-n.ensures c.put_decimal-n.ensures c.put_bytes-n-2.ensures
    c.put_decimal-n-2.ensures c.put_byte-n.ensures

pub slice_bounds-put_bytes-end-5 : goal.slice_bounds-put_bytes-end-5
slice_bounds-put_bytes-end-5 c =
    sym
    (length-take-le _ _
    (inside c.args.found c.args.cells refl c.put_bytes-n.ensures c.put_decimal-n.ensures c.put_bytes-n-2.ensures
    c.put_decimal-n-2.ensures c.put_byte-n.ensures))

pub returns : goal.returns
returns c =
    same_bytes
    (part c.args.found c.args.cells refl c.put_bytes-n.ensures c.put_decimal-n.ensures c.put_bytes-n-2.ensures
    c.put_decimal-n-2.ensures c.put_byte-n.ensures)
    c.put_bytes.ensures
