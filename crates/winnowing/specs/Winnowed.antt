-- What a scan of letters leaves: as many entries of their sketch as there is room for in two buffers, and the number of all.
use Rattle.std.specs.Prelude.{ℕ, suc, Bool, cond, ◌||◌, List, [], ◌∷◌, ltb, length, set}
use Rattle.base.specs.Limits.{k_limit, w_limit, letter_limit, outside}
use Rattle.kmers.specs.Kmers.{Entry}
use Rattle.minimizers.specs.Sketch.{sketch}

-- the number of entries found, and the two buffers
pub record Written : Type 0 where
  pub entries : ℕ
  pub codes : List ℕ
  pub positions : List ℕ

abbrev pub wrote : ℕ → List ℕ → List ℕ → Written
wrote n cs ps = record { entries = n; codes = cs; positions = ps }

-- the buffer with x at n, where n is below the room
unfoldable pub placed : ℕ → ℕ → ℕ → List ℕ → List ℕ
placed room n x buffer = cond (ltb n room) (set buffer n x) buffer

-- what stands at the end where n entries were found, the buffers hold cs and ps, and these are still to come
abbrev pub written : ℕ → ℕ → List ℕ → List ℕ → List Entry → Written
written room n cs ps [] = wrote n cs ps
written room n cs ps (e ∷ es) = written room (suc n) (placed room n e.code cs) (placed room n e.position ps) es

-- k, w or the number of letters is beyond its limit, or one of the two buffers is shorter than the room
unfoldable pub is_beyond : ℕ → ℕ → ℕ → ℕ → ℕ → ℕ → Bool
is_beyond k w letters codes positions room =
    outside 1 k_limit k || outside 1 w_limit w || ltb letter_limit letters || ltb codes room || ltb positions room

-- the sketch is written as far as there is room; beyond a limit nothing is found and nothing written
unfoldable pub winnowed : ℕ → ℕ → List ℕ → ℕ → List ℕ → List ℕ → Written
winnowed k w letters room cs ps =
    cond (is_beyond k w (length letters) (length cs) (length ps) room) (wrote 0 cs ps) (written room 0 cs ps (sketch k w letters))
