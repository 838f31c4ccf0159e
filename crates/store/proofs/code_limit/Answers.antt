-- 4^15 fits 32 bits.
use Rattle.std.proofs.Common.{◌^◌, ◌≤◌, arith, lit<}
use native.Mathlib.Nat.{pow-le-pow_right}
use Rattle.store.proofs.code_limit.Goals as goal

pub pow-requires : goal.pow-requires
pow-requires c =
    let few : c.min.result ≤ 15 = omega arith in
    let below : 4 ^ c.min.result ≤ 4 ^ 15 = pow-le-pow_right (lit< tt) few in
    omega arith
