-- Arrays with one value in each place: what a function that makes one answers.
use Rattle.std.specs.Prelude.{ℕ, List, replicate}

module _ {ℓ} {A : Type ℓ} where
  -- n times this value
  unfoldable pub copies : ℕ → A → List A
  copies n x = replicate n x

-- a list of n zeros
abbrev pub zeros : ℕ → List ℕ
zeros n = copies n 0
