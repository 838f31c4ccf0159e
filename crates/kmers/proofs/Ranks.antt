-- Unequal codes have unequal ranks: multiplying by an odd number is one to one modulo any power of two.
use Prim.Native.Nat.{ℕ, zero, suc, ◌+◌, ◌*◌, ◌-◌, ◌/◌, ◌%◌, ◌^◌, ◌≤◌, ◌<◌, ◌∣◌}
use native.Mathlib.Nat.{pow-succ', mul_assoc, mul-mod_right, mod-one, mod-eq_of_lt, mod-eq-zero_of_dvd, dvd_of_mod-eq-zero}
use native.Mathlib.Nat.{dvd_of_mul-dvd-mul_left, mul-dvd-mul_left, dvd_trans, dvd-mul_right, div-add-mod, mul-sub, mul_comm, zero-lt-suc}
use native.Mathlib.Nat.{le_antisymm, add-mul-mod_self_left}
use native.Mathlib.Omega.{arith}
use mathlib.Core.Path.{◌≡◌, refl, sym, ap, ◌∙◌, subst}
use Rattle.kmers.specs.Kmers.{rank}
use Rattle.kmers.specs.Ranks.{multiplier, rank_modulus, inverse, unrank}

-- an odd factor may be left out: what it makes even was even
even_factor : (d m : ℕ) → m % 2 ≡ 1 → d * m % 2 ≡ 0 → d % 2 ≡ 0
even_factor d m odd h = go (d % 2) refl (omega arith)
  where
    go : (r : ℕ) → d % 2 ≡ r → r < 2 → d % 2 ≡ 0
    go zero e l = e
    go (suc r) e l =
        let a : ℕ = d / 2 in
        let b : ℕ = m / 2 in
        let da : d ≡ 2 * a + 1 = omega arith in
        let mb : m ≡ 2 * b + 1 = omega arith in
        let p : d * m ≡ (2 * a + 1) * (2 * b + 1) = rw (← da, ← mb) in
        absurd (omega arith)

-- what an odd factor makes a multiple of a power of two was one before
power_factor : (n d m : ℕ) → m % 2 ≡ 1 → d * m % 2 ^ n ≡ 0 → d % 2 ^ n ≡ 0
power_factor zero d m odd h = mod-one d
power_factor (suc n) d m odd h =
    let half : ℕ = d / 2 in
    let power : 2 ^ suc n ≡ 2 * 2 ^ n = pow-succ' 2 n in
    let whole : 2 * 2 ^ n ∣ d * m = dvd_of_mod-eq-zero (2 * 2 ^ n) (rw power at h) in
    let even : d * m % 2 ≡ 0 = mod-eq-zero_of_dvd 2 (dvd_trans 2 (dvd-mul_right 2 (2 ^ n)) whole) in
    let two : d % 2 ≡ 0 = even_factor d m odd even in
    let double : d ≡ 2 * half = omega arith in
    let split : d * m ≡ 2 * (half * m) = ap (λ (x : ℕ). x * m) double ∙ mul_assoc 2 half m in
    let less : 2 ^ n ∣ half * m = dvd_of_mul-dvd-mul_left (2 ^ n) (zero-lt-suc 1) (subst (λ (x : ℕ). 2 * 2 ^ n ∣ x) split whole) in
    let rest : 2 ^ n ∣ half = dvd_of_mod-eq-zero (2 ^ n) (power_factor n half m odd (mod-eq-zero_of_dvd (2 ^ n) less)) in
    let all : 2 * 2 ^ n ∣ 2 * half = mul-dvd-mul_left (2 ^ n) 2 rest in
    subst (λ (x : ℕ). d % x ≡ 0) (sym power) (mod-eq-zero_of_dvd (2 * 2 ^ n) (subst (λ (x : ℕ). 2 * 2 ^ n ∣ x) (sym double) all))

-- numbers that leave the same remainder differ by a multiple
same_remainder : (x y c : ℕ) → x % c ≡ y % c → (x - y) % c ≡ 0
same_remainder x y c h =
    let dx : c * (x / c) + x % c ≡ x = div-add-mod x c in
    let dy : c * (y / c) + y % c ≡ y = div-add-mod y c in
    let e : x - y ≡ c * (x / c) - c * (y / c) = omega arith in
    ap (λ (z : ℕ). z % c) (e ∙ sym (mul-sub c (x / c) (y / c))) ∙ mul-mod_right c (x / c - y / c)

-- of two numbers below a power of two that an odd factor takes to the same remainder the first is not greater
odd_multiple_le : (n m x y : ℕ) → m % 2 ≡ 1 → x < 2 ^ n → x * m % 2 ^ n ≡ y * m % 2 ^ n → x ≤ y
odd_multiple_le n m x y odd hx h =
    let apart : (x - y) * m ≡ x * m - y * m = rw (mul_comm (x - y) m, mul-sub m x y, mul_comm m x, mul_comm m y) in
    let multiple : (x - y) * m % 2 ^ n ≡ 0 = ap (λ (z : ℕ). z % 2 ^ n) apart ∙ same_remainder (x * m) (y * m) (2 ^ n) h in
    let none : x - y ≡ 0 = sym (mod-eq_of_lt (omega arith)) ∙ power_factor n (x - y) m odd multiple in
    omega arith

-- ONE LAW for any power of two and any odd multiplier: unequal numbers below the power have unequal remainders
odd_multiple_one_to_one : (n m x y : ℕ) → m % 2 ≡ 1 → x < 2 ^ n → y < 2 ^ n → x * m % 2 ^ n ≡ y * m % 2 ^ n → x ≡ y
odd_multiple_one_to_one n m x y odd hx hy h = le_antisymm (odd_multiple_le n m x y odd hx h) (odd_multiple_le n m y x odd hy (sym h))

-- a factor and its inverse undo each other, and remainders may be taken on the way
inverse_back : (c m i x : ℕ) → m * i % c ≡ 1 → x < c → x * m % c * i % c ≡ x
inverse_back c m i x h l =
    let q : ℕ = x * m / c in
    let a : ℕ = x * m % c in
    let t : ℕ = m * i / c in
    let there : (c * q + a) * i ≡ x * m * i = ap (λ (z : ℕ). z * i) (div-add-mod (x * m) c) in
    let back : x * (c * t + 1) ≡ x * (m * i) = ap (λ (z : ℕ). x * z) (subst (λ (r : ℕ). c * t + r ≡ m * i) h (div-add-mod (m * i) c)) in
    let same : a * i + c * (q * i) ≡ x + c * (x * t) = omega arith in
    sym (add-mul-mod_self_left (a * i) c (q * i)) ∙ ap (λ (z : ℕ). z % c) same ∙ add-mul-mod_self_left x c (x * t) ∙ mod-eq_of_lt l

-- the rank of a code is taken back to the code
pub unrank_rank : (x : ℕ) → x < rank_modulus → unrank (rank x) ≡ x
unfolding rank unrank
unrank_rank x h = inverse_back rank_modulus multiplier inverse x refl h

-- unequal codes have unequal ranks
pub rank_one_to_one : (x y : ℕ) → x < rank_modulus → y < rank_modulus → rank x ≡ rank y → x ≡ y
unfolding rank
rank_one_to_one x y hx hy h = odd_multiple_one_to_one 30 multiplier x y refl hx hy h
