-- Letters, their values, and runs.
use Rattle.std.specs.Prelude.{ℕ, Bool, cond, ◌||◌, List, map, eqb}
use Rattle.base.specs.Lists.{parts_between}

-- what stands for the value of a letter outside the eight
abbrev pub foreign : ℕ
foreign = 4

-- the byte is the upper or the lower case letter
abbrev pub either_case : ℕ → ℕ → ℕ → Bool
either_case upper lower b = eqb b upper || eqb b lower

-- the bytes A, C, G, T and a, c, g, t have values 0, 1, 2, 3
unfoldable pub value : ℕ → ℕ
value b =
    cond (either_case 65 97 b) 0
    (cond (either_case 67 99 b) 1
    (cond (either_case 71 103 b) 2
    (cond (either_case 84 116 b) 3
    foreign)))

-- the byte is a letter outside the eight
unfoldable pub is_foreign : ℕ → Bool
is_foreign b = eqb (value b) foreign

-- the runs of the letters, as values, in their order: a letter outside the eight ends the run, and the next one begins behind it.
-- So there is one run more than there are letters outside the eight, and a run may be empty.
unfoldable pub runs : List ℕ → List (List ℕ)
runs letters = map (map value) (parts_between is_foreign letters)
