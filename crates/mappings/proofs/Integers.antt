-- The order of ℤ by the test that computes, and scores ordered by natural numbers, with and without a bias.
use Prim.Native.Nat.{ℕ, zero, suc, ◌+◌, ◌-◌, ◌*◌, ◌≤◌, ◌<◌, zero-le}
use native.Mathlib.Nat.{le_of_lt, le_antisymm, mul-sub, mul-le-mul_left}
use native.Mathlib.Omega.{arith}
use mathlib.Core.Path.{◌≡◌, refl, sym, ap, ap₂, ◌∙◌}
use mathlib.Core.Bool.{Bool, true, false, false≢true}
use lib.Dec.{leb, ltb}
use lib.IntN.{ℤ, pos, negsuc, sub_ℕ, ◌-ℤ◌}
use lib.Signed.{le_z, mag}
use borrow.Author.Tests.{ltb-true, ltb-false, le-ltb, leb-true, leb-false, le-leb, lt-leb}
use Rattle.base.proofs.Lists.{same_test}
use Rattle.mappings.specs.Score.{distance, linear}
use Rattle.mappings.specs.Bias.{bias, biased, biased_z}
use Rattle.mappings.specs.Unbiased.{unbiased}

-- ---- the order

pub le_z_total : (y z : ℤ) → le_z y z ≡ false → le_z z y ≡ true
le_z_total (pos a) (pos b) e = le-leb b a (le_of_lt (leb-false a b e))
le_z_total (pos a) (negsuc b) e = refl
le_z_total (negsuc a) (pos b) e = absurd (false≢true (sym e))
le_z_total (negsuc a) (negsuc b) e = le-leb a b (le_of_lt (leb-false b a e))

pub le_z_trans : (x y z : ℤ) → le_z x y ≡ true → le_z y z ≡ true → le_z x z ≡ true
le_z_trans (pos a) (pos b) (pos c) h k = le-leb a c (omega (arith, leb-true a b h, leb-true b c k))
le_z_trans (pos a) (pos b) (negsuc c) h k = k
le_z_trans (pos a) (negsuc b) z h k = absurd (false≢true h)
le_z_trans (negsuc a) (pos b) (pos c) h k = refl
le_z_trans (negsuc a) (pos b) (negsuc c) h k = absurd (false≢true k)
le_z_trans (negsuc a) (negsuc b) (pos c) h k = refl
le_z_trans (negsuc a) (negsuc b) (negsuc c) h k = le-leb c a (omega (arith, leb-true b a h, leb-true c b k))

le_z_antisym : (y z : ℤ) → le_z y z ≡ true → le_z z y ≡ true → y ≡ z
le_z_antisym (pos a) (pos b) h k = ap pos (le_antisymm (leb-true a b h) (leb-true b a k))
le_z_antisym (pos a) (negsuc b) h k = absurd (false≢true h)
le_z_antisym (negsuc a) (pos b) h k = absurd (false≢true k)
le_z_antisym (negsuc a) (negsuc b) h k = ap negsuc (le_antisymm (leb-true a b k) (leb-true b a h))

-- ---- differences of naturals

sub-subℕ : (a b : ℕ) → pos a -ℤ pos b ≡ sub_ℕ a b
sub-subℕ a zero = rw (le-ltb a 0 zero-le) (ap pos (omega arith))
sub-subℕ a (suc b) = refl

-- a − b is not negative, or negative
pub data Difference (a b : ℕ) : Type 0 where
  up : (n : ℕ) → a ≡ b + n → pos a -ℤ pos b ≡ pos n → Difference a b
  down : (n : ℕ) → b ≡ suc (a + n) → pos a -ℤ pos b ≡ negsuc n → Difference a b

pub difference : (a b : ℕ) → Difference a b
difference a b = go (ltb a b) refl
  where
    go : (t : Bool) → ltb a b ≡ t → Difference a b
    go true e = let h : a < b = ltb-true a b e in down (b - suc a) (omega arith) (sub-subℕ a b ∙ rw e)
    go false e = let h : b ≤ a = ltb-false a b e in up (a - b) (omega arith) (sub-subℕ a b ∙ rw e)

-- two comparisons that pass together
leb_same : (a b c d : ℕ) → (a ≤ b → c ≤ d) → (c ≤ d → a ≤ b) → leb a b ≡ leb c d
leb_same a b c d f g = same_test (leb a b) (leb c d) (λ h. le-leb c d (f (leb-true a b h))) (λ h. le-leb a b (g (leb-true c d h)))

-- differences order as the sums across do
pub differences_order : (a b a' b' : ℕ) → le_z (pos a -ℤ pos b) (pos a' -ℤ pos b') ≡ leb (a + b') (a' + b)
differences_order a b a' b' = go (difference a b) (difference a' b')
  where
    go : Difference a b → Difference a' b' → le_z (pos a -ℤ pos b) (pos a' -ℤ pos b') ≡ leb (a + b') (a' + b)
    go (up n p e) (up n' p' e') = ap₂ le_z e e' ∙ leb_same n n' (a + b') (a' + b) (omega arith) (omega arith)
    go (up n p e) (down n' p' e') = ap₂ le_z e e' ∙ sym (lt-leb (a + b') (a' + b) (omega arith))
    go (down n p e) (up n' p' e') = ap₂ le_z e e' ∙ sym (le-leb (a + b') (a' + b) (omega arith))
    go (down n p e) (down n' p' e') = ap₂ le_z e e' ∙ leb_same n' n (a + b') (a' + b) (omega arith) (omega arith)

differences_same : (a b a' b' : ℕ) → a + b' ≡ a' + b → pos a -ℤ pos b ≡ pos a' -ℤ pos b'
differences_same a b a' b' e =
    le_z_antisym (pos a -ℤ pos b) (pos a' -ℤ pos b')
    (differences_order a b a' b' ∙ le-leb (a + b') (a' + b) (omega arith))
    (differences_order a' b' a b ∙ le-leb (a' + b) (a + b') (omega arith))

-- ---- the linear score by naturals

-- u·m − v·(len + |p| − 2m) is (u + 2v)·m − v·(len + |p|)
linear_naturals : (u v size m len : ℕ) → 2 * m ≤ len + size → linear u v size m len ≡ pos ((u + 2 * v) * m) -ℤ pos (v * (len + size))
unfolding linear distance
linear_naturals u v size m len h =
    differences_same (u * m) (v * (len + size - 2 * m)) ((u + 2 * v) * m) (v * (len + size))
    (let e : v * (len + size - 2 * m) ≡ v * (len + size) - v * (2 * m) = mul-sub v (len + size) (2 * m) in
    let l : v * (2 * m) ≤ v * (len + size) = mul-le-mul_left v h in
    omega arith)

-- words order as the numbers that they stand for
pub unbiased_order : (x y : ℕ) → le_z (unbiased x) (unbiased y) ≡ leb x y
unfolding unbiased
unbiased_order x y = differences_order x bias y bias ∙ leb_same (x + bias) (y + bias) x y (omega arith) (omega arith)

pub linear_biased : (u v size m len : ℕ) → 2 * m ≤ len + size → v * (len + size) ≤ bias → linear u v size m len ≡ unbiased (biased u v size m len)
unfolding unbiased biased
linear_biased u v size m len h k =
    linear_naturals u v size m len h ∙ differences_same ((u + 2 * v) * m) (v * (len + size)) ((u + 2 * v) * m + bias - v * (len + size)) bias (omega arith)

-- scores order as their words do
pub biased_order : (u v size m len m' len' : ℕ) → 2 * m ≤ len + size → v * (len + size) ≤ bias → 2 * m' ≤ len' + size
    → v * (len' + size) ≤ bias
    → le_z (linear u v size m len) (linear u v size m' len') ≡ leb (biased u v size m len) (biased u v size m' len')
biased_order u v size m len m' len' h k h' k' =
    ap₂ le_z (linear_biased u v size m len h k) (linear_biased u v size m' len' h' k')
    ∙ unbiased_order (biased u v size m len) (biased u v size m' len')

-- a signed 32-bit number is what its word stands for
pub unbiased_biased_z : (z : ℤ) → mag z < bias → unbiased (biased_z z) ≡ z
unfolding unbiased
unbiased_biased_z (pos n) h = go (difference (bias + n) bias)
  where
    go : Difference (bias + n) bias → pos (bias + n) -ℤ pos bias ≡ pos n
    go (up n' p e) = e ∙ ap pos (omega arith)
    go (down n' p e) = absurd (omega arith)
unbiased_biased_z (negsuc n) h = go (difference (bias - suc n) bias)
  where
    go : Difference (bias - suc n) bias → pos (bias - suc n) -ℤ pos bias ≡ negsuc n
    go (up n' p e) = absurd (omega arith)
    go (down n' p e) = e ∙ ap negsuc (omega arith)
