-- Signed numbers of 32 bits that become words with 2^31 added: what the casts ask and give.
use Prim.Native.Nat.{ℕ, suc, ◌+◌, ◌-◌, ◌≤◌, ◌<◌}
use native.Mathlib.Omega.{arith}
use mathlib.Core.Path.{◌≡◌, refl, sym, ap, ◌∙◌}
use mathlib.Core.Bool.{true, false, false≢true, true≢false}
use lib.Dec.{T, leb-zero}
use lib.IntN.{ℤ, pos, negsuc, nat_abs, ◌-ℤ◌}
use lib.Signed.{le_z, non_neg}
use mir.Syntax.{w32}
use mir.Val.{Fits, SFits, to_z, of_z}
use mir.ValLaws.{to_z-of_z}
use borrow.Author.Tests.{le-ltb}
use Rattle.base.specs.Limits.{signed_limit}
use Rattle.mappings.specs.Bias.{bias, biased_z}

-- a signed number as the code reads it back from its bits
abbrev pub read : ℤ → ℤ
read z = to_z w32 (of_z w32 z)

-- ---- a number of at least 0

module _ (z : ℤ) (f : SFits w32 z) (h : le_z (pos 0) (read z) ≡ true) where
  at_least_zero : (n : ℕ) × (z ≡ pos n) × (n < signed_limit)
  at_least_zero = go z f (rw (to_z-of_z w32 z f) at h)
    where
      go : (y : ℤ) → SFits w32 y → le_z (pos 0) y ≡ true → (n : ℕ) × (y ≡ pos n) × (n < signed_limit)
      go (pos n) g t = (n, refl, g.sfits)
      go (negsuc n) g t = absurd (false≢true t)

  read_pos : read z ≡ pos at_least_zero.0
  read_pos = to_z-of_z w32 z f ∙ at_least_zero.1

  pub pos_cast : T (non_neg (read z)) × Fits w32 (nat_abs (read z))
  pos_cast = rw read_pos (tt, record { fits = omega (arith, at_least_zero.2) })

  pub pos_add : Fits w32 (nat_abs (read z) + bias)
  pos_add = rw read_pos (record { fits = omega (arith, at_least_zero.2) })

  pub pos_biased : nat_abs (read z) + bias ≡ biased_z z
  pos_biased =
      ap (λ (y : ℤ). nat_abs y + bias) read_pos
      ∙ (let e : at_least_zero.0 + bias ≡ bias + at_least_zero.0 = omega arith in e)
      ∙ ap biased_z (sym at_least_zero.1)

-- ---- a number below 0

-- −1 − z for a z below 0
minus_one : (n : ℕ) → negsuc 0 -ℤ negsuc n ≡ pos n
minus_one n = let t : _ = le-ltb (suc n) 1 (omega arith) in rw t (ap pos (let e : suc n - 1 ≡ n = omega arith in e))

module _ (z : ℤ) (f : SFits w32 z) (h : le_z (pos 0) (read z) ≡ false) where
  below_zero : (n : ℕ) × (z ≡ negsuc n) × (n < signed_limit)
  below_zero = go z f (rw (to_z-of_z w32 z f) at h)
    where
      go : (y : ℤ) → SFits w32 y → le_z (pos 0) y ≡ false → (n : ℕ) × (y ≡ negsuc n) × (n < signed_limit)
      go (pos n) g t = absurd (true≢false (sym (leb-zero n) ∙ t))
      go (negsuc n) g t = (n, refl, g.sfits)

  left_of_lem : negsuc 0 -ℤ read z ≡ pos below_zero.0
  left_of_lem = ap (λ (y : ℤ). negsuc 0 -ℤ y) (to_z-of_z w32 z f ∙ below_zero.1) ∙ minus_one below_zero.0

  pub neg_sub : SFits w32 (negsuc 0 -ℤ read z)
  neg_sub = rw left_of_lem (record { sfits = below_zero.2 })

  read_left : read (negsuc 0 -ℤ read z) ≡ pos below_zero.0
  read_left = to_z-of_z w32 (negsuc 0 -ℤ read z) neg_sub ∙ left_of_lem

  pub neg_cast : T (non_neg (read (negsuc 0 -ℤ read z))) × Fits w32 (nat_abs (read (negsuc 0 -ℤ read z)))
  neg_cast = rw read_left (tt, record { fits = omega (arith, below_zero.2) })

  pub neg_within : nat_abs (read (negsuc 0 -ℤ read z)) ≤ bias - 1
  neg_within = rw read_left (omega (arith, below_zero.2))

  pub neg_biased : bias - 1 - nat_abs (read (negsuc 0 -ℤ read z)) ≡ biased_z z
  neg_biased =
      ap (λ (y : ℤ). bias - 1 - nat_abs y) read_left
      ∙ go below_zero.0 below_zero.2
      ∙ ap biased_z (sym below_zero.1)
    where
      go : (n : ℕ) → n < signed_limit → bias - 1 - n ≡ bias - suc n
      go n l = omega arith
