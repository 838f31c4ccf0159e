-- Searching words in order: what is left of them is halved until nothing is left.
use Rattle.std.specs.Prelude.{ℕ, zero, suc, ◌+◌, ◌-◌, ◌*◌, ◌/◌, List, ltb, length, get_or}
use Rattle.base.specs.Lists.{bit}

-- half of what is left, rounded up
abbrev pub half_of : ℕ → ℕ
half_of left = (left + 1) / 2

-- where the search ends that has passed the words before `at` and has `left` words left: a half whose last word is below x is passed;
-- `fuel` is at least the number of turns
unfoldable pub halved : ℕ → List ℕ → ℕ → ℕ → ℕ → ℕ
halved zero words x at left = at
halved (suc fuel) words x at zero = at
halved (suc fuel) words x at (suc rest) =
    halved fuel words x (at + half_of (suc rest) * bit (ltb (get_or words (at + half_of (suc rest) - 1) 0) x)) (suc rest - half_of (suc rest))

-- where the search through all the words ends; of words in order, the number of those below x
unfoldable pub searched : List ℕ → ℕ → ℕ
searched words x = halved (length words) words x 0 (length words)
