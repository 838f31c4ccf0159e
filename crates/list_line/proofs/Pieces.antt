-- What is written piece by piece into a local buffer that has room for it: a signed number, a fraction and a line.
use Prim.Native.Nat.{ℕ, ◌≤◌}
use native.Mathlib.Omega.{arith}
use mathlib.Core.Path.{◌≡◌, sym, ap, ◌∙◌}
use mathlib.Core.List.{List, [], ◌∷◌, ◌++◌, append_assoc}
use lib.ListN.{length, take, length-append}
use Rattle.base.specs.Bytes.{space, line_feed, minus, slash}
use Rattle.mappings.specs.declared.Score.{Score}
use Rattle.strands.specs.declared.Strand.{Strand}
use Rattle.list_line.specs.Line.{decimal, shown_score, sign, line}
use Rattle.list_line.specs.Writing.{Written}
use Rattle.list_line.proofs.Buffers.{joined, joined_by, same_bytes, start_index, start_part, start_length}
use Rattle.list_line.proofs.Decimal.{length_decimal, length_fraction, length_score, length_line}

-- the first bytes of the buffer, up to an index, are these
pub record Holds (bytes text : List ℕ) (end : ℕ) : Type 0 where
  pub inside : end ≤ length text
  pub count : end ≡ length (take end text)
  pub part : take end text ≡ bytes

pub holds : {bytes old new : List ℕ} {next : ℕ} → Written bytes 0 old new next → length bytes ≤ length old → Holds bytes new next
holds w room =
    let n = start_index w room in
    let l = start_length w room in
    record { inside = omega arith; count = n ∙ sym (ap length (start_part w room)); part = start_part w room }

-- a minus and the digits behind it
pub below_zero : (n : ℕ) {t0 t1 t2 : List ℕ} {n1 n2 : ℕ} → 11 ≤ length t0 → Written (minus ∷ []) 0 t0 t1 n1 → Written (decimal n) n1 t1 t2 n2
    → Holds (minus ∷ decimal n) t2 n2
below_zero n room w1 w2 =
    let a : length (decimal n) ≤ 10 = length_decimal n in
    holds (joined w1 w2 (omega arith)) (omega arith)

pub fraction : (m divisor : ℕ) {t0 t1 t2 t3 : List ℕ} {n1 n2 n3 : ℕ} → 21 ≤ length t0
    → Written (decimal m) 0 t0 t1 n1 → Written (slash ∷ []) n1 t1 t2 n2 → Written (decimal divisor) n2 t2 t3 n3
    → Holds (decimal m ++ slash ∷ decimal divisor) t3 n3
fraction m divisor room w1 w2 w3 =
    let a : length (decimal m) ≤ 10 = length_decimal m in
    let b : length (decimal divisor) ≤ 10 = length_decimal divisor in
    let short = length_fraction m divisor in
    holds (joined_by w1 w2 w3 (omega arith)) (omega arith)

module _ (first last : ℕ) (score : Score) (m per_mille : ℕ) (strand : Strand) {t0 t1 t2 t3 t4 t5 t6 t7 t8 t9 t10 t11 t12 : List ℕ}
    {n1 n2 n3 n4 n5 n6 n7 n8 n9 n10 n11 n12 : ℕ} (room : 68 ≤ length t0) where
  pub pieces : {side : ℕ} → side ≡ sign strand
      → Written (decimal first) 0 t0 t1 n1 → Written (space ∷ []) n1 t1 t2 n2
      → Written (decimal last) n2 t2 t3 n3 → Written (space ∷ []) n3 t3 t4 n4
      → Written (shown_score score) n4 t4 t5 n5 → Written (space ∷ []) n5 t5 t6 n6
      → Written (decimal m) n6 t6 t7 n7 → Written (space ∷ []) n7 t7 t8 n8
      → Written (decimal per_mille) n8 t8 t9 n9 → Written (space ∷ []) n9 t9 t10 n10
      → Written (side ∷ []) n10 t10 t11 n11 → Written (line_feed ∷ []) n11 t11 t12 n12
      → Holds (line first last score m per_mille strand) t12 n12
  unfolding line
  pieces {side} is w1 w2 w3 w4 w5 w6 w7 w8 w9 w10 w11 w12 =
      let a : length (decimal first) ≤ 10 = length_decimal first in
      let b : length (decimal last) ≤ 10 = length_decimal last in
      let c : length (shown_score score) ≤ 21 = length_score score in
      let d : length (decimal m) ≤ 10 = length_decimal m in
      let e : length (decimal per_mille) ≤ 10 = length_decimal per_mille in
      let x3 = joined_by w1 w2 w3 (omega arith) in
      let x5 = joined_by x3 w4 w5 (simp length-append (omega arith)) in
      let x7 = joined_by x5 w6 w7 (simp length-append (omega arith)) in
      let x9 = joined_by x7 w8 w9 (simp length-append (omega arith)) in
      let side_byte = same_bytes (ap (λ (x : ℕ). x ∷ []) is) w11 in
      let x11 = joined_by x9 w10 side_byte (simp length-append (omega arith)) in
      let numbers : List ℕ = decimal first ++ space ∷ decimal last ++ space ∷ shown_score score ++ space ∷ decimal m ++ space ∷ decimal per_mille in
      let short : length (line first last score m per_mille strand) ≤ 68 = length_line first last score m per_mille strand in
      holds
      (same_bytes (append_assoc numbers (space ∷ sign strand ∷ []) (line_feed ∷ [])) (joined x11 w12 (simp length-append (omega arith))))
      (omega arith)
