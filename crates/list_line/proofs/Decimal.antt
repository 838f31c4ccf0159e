-- Laws of numbers in decimal: digit by digit, and how long they are.
use Prim.Native.Nat.{ℕ, zero, suc, ◌+◌, ◌/◌, ◌%◌, ◌^◌, ◌≤◌, ◌<◌}
use native.Mathlib.Nat.{pow-suc, div-lt_iff_lt-mul}
use native.Mathlib.Omega.{arith}
use mathlib.Core.Path.{◌≡◌, refl, sym, ap, subst}
use mathlib.Core.Bool.{Bool, true, false, false≢true}
use mathlib.Core.List.{List, [], ◌∷◌, ◌++◌}
use lib.Dec.{ltb, leb-zero}
use Rattle.base.proofs.Lists.{clash}
use lib.ListN.{length, drop, length-append, drop_of_length-le}
use lib.IntN.{ℤ, pos, negsuc, nat_abs}
use lib.Signed.{le_z}
use borrow.Author.Tests.{lt-ltb, le-ltb, ltb-true, ltb-false}
use Rattle.list_line.specs.Line.{fitting, digits_before, decimal, signed, shown_score, line}
use Rattle.list_line.proofs.Buffers.{fitting_all}
use Rattle.base.specs.Bytes.{minus, slash, digit}
use Rattle.mappings.specs.declared.Score.{Score}
use Rattle.mappings.specs.declared.Score.TheVariants.{Number, Fraction}
use Rattle.strands.specs.declared.Strand.{Strand}

-- ---- one digit more

pub digits_last : (places n : ℕ) (rest : List ℕ) → n < 10 → digits_before (suc places) n rest ≡ digit n ∷ rest
digits_last places n rest h = rw (lt-ltb n 10 h)

pub digits_more : (places n : ℕ) (rest : List ℕ) → 10 ≤ n
    → digits_before (suc places) n rest ≡ digits_before places (n / 10) (digit (n % 10) ∷ rest)
digits_more places n rest h = rw (le-ltb n 10 h)

-- a number of one place more has a tenth of one place less
pub tenth : (places n : ℕ) → n < 10 ^ suc places → n / 10 < 10 ^ places
tenth places n h =
    let ten : 0 < 10 = omega arith in
    (div-lt_iff_lt-mul {k = 10} {x = n} {y = 10 ^ places} ten).1 (subst (λ (m : ℕ). n < m) (pow-suc 10 places) h)

-- what holds of the digits of n where they are one, and where they are those of its tenth and one more
pub digits_by : (P : ℕ → List ℕ → List ℕ → Type 0)
    → ((n : ℕ) (rest : List ℕ) → n < 10 → P n rest (digit n ∷ rest))
    → ((n : ℕ) (rest l : List ℕ) → 10 ≤ n → P (n / 10) (digit (n % 10) ∷ rest) l → P n rest l)
    → (places n : ℕ) (rest : List ℕ) → n < 10 ^ suc places → P n rest (digits_before (suc places) n rest)
digits_by P last more zero n rest h = rw (digits_last zero n rest h) (last n rest h)
digits_by P last more (suc places) n rest h = go (λ k. digits_by P last more places (n / 10) (digit (n % 10) ∷ rest) k) (ltb n 10) refl
  where
    go : (n / 10 < 10 ^ suc places → P (n / 10) (digit (n % 10) ∷ rest) (digits_before (suc places) (n / 10) (digit (n % 10) ∷ rest))) → (b : Bool)
        → ltb n 10 ≡ b → P n rest (digits_before (suc (suc places)) n rest)
    go rec true e = subst (λ (l : List ℕ). P n rest l) (sym (digits_last (suc places) n rest (ltb-true n 10 e))) (last n rest (ltb-true n 10 e))
    go rec false e =
        let large : 10 ≤ n = ltb-false n 10 e in
        subst (λ (l : List ℕ). P n rest l) (sym (digits_more (suc places) n rest large)) (more n rest _ large (rec (tenth (suc places) n h)))

-- ---- the sign

pub signed_above : (z : ℤ) → le_z (pos 0) z ≡ true → decimal (nat_abs z) ≡ signed z
unfolding signed
signed_above (pos n) e = refl
signed_above (negsuc n) e = absurd (false≢true e)

pub signed_below : (z : ℤ) → le_z (pos 0) z ≡ false → minus ∷ decimal (nat_abs z) ≡ signed z
unfolding signed
signed_below (pos n) e = clash (leb-zero n) e
signed_below (negsuc n) e = refl

-- ---- digits written from the last to the first

-- where the digits from i on are written and this much of n is left
pub record Left (n : ℕ) (digits : List ℕ) (rest i : ℕ) : Type 0 where
  pub inside : i ≤ 10
  pub small : rest < 10 ^ i
  pub same : digits_before i rest (drop i digits) ≡ decimal n

pub left_all : (n : ℕ) (digits : List ℕ) → length digits ≡ 10 → n < 2 ^ 32 → Left n digits n 10
unfolding decimal
left_all n digits long fits =
    let h : length digits ≤ 10 = omega arith in
    record { inside = omega arith; small = omega arith; same = ap (digits_before 10 n) (drop_of_length-le digits h) }

-- ---- lengths

length_digits : (places n : ℕ) (rest : List ℕ) → length (digits_before places n rest) ≤ places + length rest
length_digits zero n rest = omega arith
length_digits (suc places) n rest = go (length_digits places (n / 10) (digit (n % 10) ∷ rest)) (ltb n 10) refl
  where
    go : length (digits_before places (n / 10) (digit (n % 10) ∷ rest)) ≤ places + suc (length rest) → (b : Bool) → ltb n 10 ≡ b
        → length (digits_before (suc places) n rest) ≤ suc places + length rest
    go rec true e = rw e (omega arith)
    go rec false e = rw e (omega arith)

pub length_decimal : (n : ℕ) → length (decimal n) ≤ 10
unfolding decimal
length_decimal n = length_digits 10 n []

pub length_signed : (z : ℤ) → length (signed z) ≤ 11
unfolding signed
length_signed (pos n) = let h : length (decimal n) ≤ 10 = length_decimal n in omega arith
length_signed (negsuc n) = let h : length (decimal (suc n)) ≤ 10 = length_decimal (suc n) in omega arith

pub length_fraction : (m divisor : ℕ) → length (decimal m ++ slash ∷ decimal divisor) ≤ 21
length_fraction m divisor =
    let a : length (decimal m) ≤ 10 = length_decimal m in
    let b : length (decimal divisor) ≤ 10 = length_decimal divisor in
    simp length-append (omega arith)

pub length_score : (score : Score) → length (shown_score score) ≤ 21
unfolding shown_score
length_score (Number z) = let h : length (signed z) ≤ 11 = length_signed z in omega arith
length_score (Fraction m divisor) = length_fraction m divisor

pub length_line : (first last : ℕ) (score : Score) (m per_mille : ℕ) (strand : Strand) → length (line first last score m per_mille strand) ≤ 68
unfolding line
length_line first last score m per_mille strand =
    let a : length (decimal first) ≤ 10 = length_decimal first in
    let b : length (decimal last) ≤ 10 = length_decimal last in
    let c : length (shown_score score) ≤ 21 = length_score score in
    let d : length (decimal m) ≤ 10 = length_decimal m in
    let e : length (decimal per_mille) ≤ 10 = length_decimal per_mille in
    simp length-append (omega arith)

-- so 68 bytes hold any line
pub line_fits : (first last : ℕ) (score : Score) (m per_mille : ℕ) (strand : Strand)
    → fitting 68 (line first last score m per_mille strand) ≡ line first last score m per_mille strand
line_fits first last score m per_mille strand =
    fitting_all 68 (line first last score m per_mille strand) (length_line first last score m per_mille strand)
