-- Fractions by their two numbers, compared by cross products: m/d is at most m'/d' where m·d' ≤ m'·d.
use Prim.Native.Nat.{ℕ, zero, suc, ◌+◌, ◌*◌, ◌≤◌}
use native.Mathlib.Nat.{zero-lt-suc, mul-le-mul_right, le_of_mul-le-mul_right}
use native.Mathlib.Omega.{arith}
use mathlib.Core.Path.{◌≡◌}

-- through a middle that is not 0/0; where its divisor is 0 it stands above all, and so does what is not below it
pub cross_transitive : (m d m' d' m'' d'' : ℕ) → 1 ≤ m' + d' → m * d' ≤ m' * d → m' * d'' ≤ m'' * d' → m * d'' ≤ m'' * d
cross_transitive m d zero zero m'' d'' some h k = absurd (omega arith)
cross_transitive m d (suc m') zero m'' d'' some h k =
    let none : suc m' * d'' ≡ 0 = omega arith in
    let infinite : d'' ≡ 0 = omega arith in
    rw infinite (omega arith)
cross_transitive m d m' (suc d') m'' d'' some h k =
    let low : m * suc d' * d'' ≤ m' * d * d'' = mul-le-mul_right d'' h in
    let high : m' * d'' * d ≤ m'' * suc d' * d = mul-le-mul_right d k in
    let scaled : m * d'' * suc d' ≤ m'' * d * suc d' = omega arith in
    le_of_mul-le-mul_right scaled (zero-lt-suc d')
