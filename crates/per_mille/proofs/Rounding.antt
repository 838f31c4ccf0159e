-- Laws of the nearest whole number: `nearest` has the property, no two numbers have it, and it does not leave a whole bound.
use Prim.Native.Nat.{ℕ, ◌+◌, ◌-◌, ◌*◌, ◌/◌, ◌%◌, ◌≤◌, ◌<◌}
use native.Mathlib.Nat.{div-add-mod, mod-lt, mul_comm, add-mul, mul-le-mul_right, le_of_mul-le-mul_right}
use native.Mathlib.Omega.{arith}
use mathlib.Core.Path.{◌≡◌, refl, sym, ap, ◌∙◌}
use mathlib.Core.Bool.{Bool, true, false, cond}
use lib.Dec.{ltb, eqb}
use borrow.Author.Tests.{ltb-true, ltb-false, eqb-true, eqb-false}
use Rattle.per_mille.specs.Rounding.{even_of, rounded, nearest, apart, Nearest}

-- the multiples of the divisor below and above: how far they are from the dividend
next : (x divisor : ℕ) → (x + 1) * divisor ≡ x * divisor + divisor
next x divisor = let e : (x + 1) * divisor ≡ x * divisor + 1 * divisor = add-mul x 1 divisor in omega arith

apart_below : (dividend multiple remainder : ℕ) → dividend ≡ multiple + remainder → apart dividend multiple ≡ remainder
unfolding apart
apart_below dividend multiple remainder e = omega arith

apart_above : (dividend multiple divisor remainder : ℕ) → dividend ≡ multiple + remainder → remainder ≤ divisor
    → apart dividend (multiple + divisor) ≡ divisor - remainder
unfolding apart
apart_above dividend multiple divisor remainder e small = omega arith

module _
    (dividend divisor quotient remainder : ℕ)
    (e : dividend ≡ quotient * divisor + remainder)
    (small : remainder < divisor)
  where
    below : 2 * remainder ≤ divisor → (2 * remainder ≡ divisor → quotient % 2 ≡ 0) → Nearest dividend divisor quotient
    below h even =
        let a : apart dividend (quotient * divisor) ≡ remainder = apart_below dividend (quotient * divisor) remainder e in
        record { near = omega arith; even = λ f. even (omega arith) }

    above : divisor ≤ 2 * remainder → (2 * remainder ≡ divisor → (quotient + 1) % 2 ≡ 0) → Nearest dividend divisor (quotient + 1)
    above h even =
        let a : apart dividend ((quotient + 1) * divisor) ≡ divisor - remainder
        = ap (apart dividend) (next quotient divisor) ∙ apart_above dividend (quotient * divisor) divisor remainder e (omega arith) in
        record { near = omega arith; even = λ f. even (omega arith) }

    rounded_nearest : Nearest dividend divisor (rounded quotient remainder divisor)
    unfolding rounded even_of
    rounded_nearest = go (ltb (2 * remainder) divisor) refl (ltb divisor (2 * remainder)) refl (eqb (quotient % 2) 0) refl
      where
        go : (less : Bool) → ltb (2 * remainder) divisor ≡ less → (more : Bool) → ltb divisor (2 * remainder) ≡ more
            → (even : Bool) → eqb (quotient % 2) 0 ≡ even
            → Nearest dividend divisor (cond less quotient (cond more (quotient + 1) (cond even quotient (quotient + 1))))
        go true l more m even p = let x : 2 * remainder < divisor = ltb-true _ _ l in below (omega arith) (λ h. absurd (omega arith))
        go false l true m even p = let x : divisor < 2 * remainder = ltb-true _ _ m in above (omega arith) (λ h. absurd (omega arith))
        go false l false m true p = let x : 2 * remainder ≤ divisor = ltb-false _ _ m in below x (λ h. eqb-true _ _ p)
        go false l false m false p =
            let x : divisor ≤ 2 * remainder = ltb-false _ _ l in
            let odd : quotient % 2 ≡ 0 → ⊥ = eqb-false _ _ p in
            above x (λ h. omega arith)

-- what is computed is nearest
pub nearest_is : (dividend divisor : ℕ) → 0 < divisor → Nearest dividend divisor (nearest dividend divisor)
unfolding nearest
nearest_is dividend divisor positive =
    rounded_nearest dividend divisor (dividend / divisor) (dividend % divisor)
    (sym (div-add-mod dividend divisor) ∙ ap (λ (x : ℕ). x + dividend % divisor) (mul_comm divisor (dividend / divisor)))
    (mod-lt dividend positive)

-- of two nearest ones neither is the lower: they would be neighbours, the fraction half way between them, and both even
not_lower : (dividend divisor x y : ℕ) → 0 < divisor → Nearest dividend divisor x → Nearest dividend divisor y → x < y → ⊥
unfolding apart
not_lower dividend divisor x y positive a b lower =
    let step : (x + 1) * divisor ≤ y * divisor = mul-le-mul_right divisor (omega arith) in
    let above : (x + 1) * divisor ≡ x * divisor + divisor = next x divisor in
    let near_x : 2 * apart dividend (x * divisor) ≤ divisor = a.near in
    let near_y : 2 * apart dividend (y * divisor) ≤ divisor = b.near in
    let even_x : x % 2 ≡ 0 = a.even (omega arith) in
    let even_y : y % 2 ≡ 0 = b.even (omega arith) in
    let neighbour : y ≤ x + 1 = le_of_mul-le-mul_right {m = y} {n = x + 1} {k = divisor} (omega arith) positive in
    omega arith

-- there is one nearest number
pub one_nearest : (dividend divisor x y : ℕ) → 0 < divisor → Nearest dividend divisor x → Nearest dividend divisor y → x ≡ y
one_nearest dividend divisor x y positive a b =
    let up : x < y → ⊥ = not_lower dividend divisor x y positive a b in
    let down : y < x → ⊥ = not_lower dividend divisor y x positive b a in
    omega arith

-- the nearest to a fraction that is at most a whole number is at most that number
pub nearest_at_most : (dividend divisor x most : ℕ) → 0 < divisor → Nearest dividend divisor x → dividend ≤ most * divisor → x ≤ most
unfolding apart
nearest_at_most dividend divisor x most positive a within =
    let above : (most + 1) * divisor ≡ most * divisor + divisor = next most divisor in
    let near : 2 * apart dividend (x * divisor) ≤ divisor = a.near in
    let not_more : most < x → ⊥ = λ more. let step : (most + 1) * divisor ≤ x * divisor = mul-le-mul_right divisor (omega arith) in omega arith in
    omega arith
