-- What an accepted reply says of the checks before it.
use Prim.Native.Nat.{ℕ}
use native.Mathlib.Omega.{arith}
use mathlib.Core.Path.{◌≡◌, refl}
use mathlib.Core.Bool.{Bool, true, false, cond}
use mathlib.Core.List.{List}
use Rattle.base.specs.Replies.{Reply, accepted, refused}

-- an accepted call passed the check
pub not_refused : (b : Bool) (number : ℕ) (values : List ℕ) (rest : Reply) (answered : List ℕ)
    → cond b (refused number values) rest ≡ accepted answered
    → (b ≡ false) × (rest ≡ accepted answered)
not_refused true number values rest answered e = absurd (let z : ◌≡◌ {A = ℕ} 0 1 = cc in omega arith)
not_refused false number values rest answered e = (refl, e)
