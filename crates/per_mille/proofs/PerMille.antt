-- Laws of per mille, where m is at most both lengths and these are not both 0, as in each accepted call: it is the whole number nearest
-- to its fraction, and at most 1,000. No limit of the lengths is needed.
use Prim.Native.Nat.{ℕ, ◌+◌, ◌-◌, ◌*◌, ◌≤◌, ◌<◌}
use native.Mathlib.Omega.{arith}
use Rattle.per_mille.specs.Rounding.{Nearest}
use Rattle.per_mille.specs.PerMille.{per_mille}
use Rattle.per_mille.proofs.Rounding.{nearest_is, nearest_at_most}

module _ (m len size : ℕ) (in_len : m ≤ len) (in_size : m ≤ size) (some : 0 < len + size) where
  divisor_positive : 0 < len + size - m
  divisor_positive = omega arith

  pub per_mille_nearest : Nearest (1000 * m) (len + size - m) (per_mille m len size)
  unfolding per_mille
  per_mille_nearest = nearest_is (1000 * m) (len + size - m) divisor_positive

  pub per_mille_at_most : per_mille m len size ≤ 1000
  per_mille_at_most = nearest_at_most (1000 * m) (len + size - m) (per_mille m len size) 1000 divisor_positive per_mille_nearest (omega arith)
