-- Numbers from a lowest to a highest: they are those that are not outside.
use Prim.Native.Nat.{ℕ, ◌≤◌}
use mathlib.Core.Path.{◌≡◌}
use mathlib.Core.Bool.{false}
use lib.Dec.{ltb}
use borrow.Author.Tests.{le-ltb, ltb-false}
use Rattle.base.proofs.Lists.{or_neither}
use Rattle.base.specs.Limits.{outside}

pub inside : (low high n : ℕ) → low ≤ n → n ≤ high → outside low high n ≡ false
inside low high n p q = rw (le-ltb n low p) (le-ltb high n q)

pub inside_range : (low high n : ℕ) → outside low high n ≡ false → (low ≤ n) × (n ≤ high)
inside_range low high n h =
    let e = or_neither (ltb n low) (ltb high n) h in
    (ltb-false n low e.0, ltb-false high n e.1)
