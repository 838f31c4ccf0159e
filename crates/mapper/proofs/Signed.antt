-- Signed numbers of 32 bits: words with 2^31 added, and a difference of two small natural numbers as the code computes it.
use Prim.Native.Nat.{ℕ, suc, ◌+◌, ◌-◌, ◌%◌, ◌≤◌, ◌<◌}
use native.Mathlib.Nat.{mod-eq_of_lt}
use native.Mathlib.Omega.{arith}
use mathlib.Core.Path.{◌≡◌, refl, ap, ap₂, ◌∙◌}
use lib.IntN.{pos, negsuc, sub_ℕ, ◌-ℤ◌}
use mir.Syntax.{w32}
use mir.Val.{SFits, to_z, of_z}
use mir.ValLaws.{to_z-of_z}
use borrow.Author.Tests.{lt-ltb, le-ltb, ltb-true, ltb-false}
use mathlib.Core.Bool.{Bool, true, false}
use lib.Dec.{ltb}
use Rattle.base.specs.Limits.{word_limit, signed_limit}
use Rattle.mappings.specs.Bias.{bias}
use Rattle.mappings.proofs.Integers.{Difference, up, down, difference}

-- a word below 2^31 is a signed number as it stands
small : (n : ℕ) → n < signed_limit → to_z w32 n ≡ pos n
small n h = rw (lt-ltb n (signed_limit) h)

-- the bits of a word less 2^31, as a signed number
pub word_read : (word : ℕ) → word < word_limit → to_z w32 ((word + (word_limit - bias)) % word_limit) ≡ sub_ℕ word bias
word_read word h = go (ltb word bias) refl
  where
    go : (b : Bool) → ltb word bias ≡ b → to_z w32 ((word + (word_limit - bias)) % word_limit) ≡ sub_ℕ word bias
    go true e =
        let l : word < bias = ltb-true word bias e in
        let n : (word + (word_limit - bias)) % word_limit ≡ word + bias = mod-eq_of_lt (omega arith) in
        let k : word_limit - suc (word + bias) ≡ bias - suc word = omega arith in
        rw (n, le-ltb (word + bias) signed_limit (omega arith), lt-ltb word bias l) (ap negsuc k)
    go false e =
        let l : bias ≤ word = ltb-false word bias e in
        let n : (word + (word_limit - bias)) % word_limit ≡ word - bias = omega arith in
        rw (n, lt-ltb (word - bias) signed_limit (omega arith), le-ltb word bias l)

-- ---- a difference

module _ (a b : ℕ) (h : a < signed_limit) (k : b < signed_limit) where
  words : to_z w32 a -ℤ to_z w32 b ≡ pos a -ℤ pos b
  words = ap₂ ◌-ℤ◌ (small a h) (small b k)

  pub difference_fits : SFits w32 (to_z w32 a -ℤ to_z w32 b)
  difference_fits = rw words (go (difference a b))
    where
      go : Difference a b → SFits w32 (pos a -ℤ pos b)
      go (up n e f) = rw f (record { sfits = omega arith })
      go (down n e f) = rw f (record { sfits = omega arith })

  pub difference_is : to_z w32 (of_z w32 (to_z w32 a -ℤ to_z w32 b)) ≡ pos a -ℤ pos b
  difference_is = to_z-of_z w32 (to_z w32 a -ℤ to_z w32 b) difference_fits ∙ words
