-- The law of the value by arithmetic: for each of the eight letters it is document 01's value.
use Prim.Native.Nat.{ℕ}
use mathlib.Core.Path.{◌≡◌, refl, sym}
use mathlib.Core.Bool.{true}
use mathlib.Core.List.{Memᴰ}
use lib.Dec.{eqb}
use borrow.Author.Tests.{eqb-true}
use Rattle.base.specs.Lists.{every}
use Rattle.base.proofs.Lists.{every_mem}
use Rattle.kmers.specs.Letters.{value}
use Rattle.letters.specs.Computed.{eight, computed}

-- a test that computes over the eight
same_values : every (λ (b : ℕ). eqb (computed b) (value b)) eight ≡ true
unfolding computed value
same_values = refl

-- with s = (byte / 2) mod 4, the value of one of the eight is s with its lowest bit flipped when s is 2 or 3
pub computed_value : (b : ℕ) → Memᴰ b eight → value b ≡ computed b
computed_value b h = sym (eqb-true (computed b) (value b) (every_mem (λ (x : ℕ). eqb (computed x) (value x)) same_values h))
