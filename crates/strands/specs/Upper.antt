-- What the laws of the reverse complement speak of: the eight letters in upper case, and a run read backwards.
use Rattle.std.specs.Prelude.{ℕ, ◌-◌, cond, List, map, reverse}
use Rattle.kmers.specs.Letters.{either_case}

-- one of the eight letters in upper case; other bytes as they are
unfoldable pub upper : ℕ → ℕ
upper b =
    cond (either_case 65 97 b) 65
    (cond (either_case 67 99 b) 67
    (cond (either_case 71 103 b) 71
    (cond (either_case 84 116 b) 84
    b)))

-- a run, as values, of the other strand: its values in reverse order, 0 with 3 and 1 with 2
unfoldable pub opposite : List ℕ → List ℕ
opposite run = reverse (map (λ (v : ℕ). 3 - v) run)
