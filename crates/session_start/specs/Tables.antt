-- What a session knows of each hit, by the hit's number, from the pattern p and the codes g of the hits: in which cells its ends are
-- reasonable; and of each block of rows: m at its first row.
use Rattle.std.specs.Prelude.{ℕ, zero, suc, ◌-◌, ◌*◌, Bool, cond, List, leb, ltb, length, get_or}
use Rattle.base.specs.Counts.{occ}
use Rattle.mappings.specs.Score.{interval, shared}
use Rattle.session_words.specs.Layout.{block_rows}

-- the first of the n numbers from a on that passes the test, or a + n where none does
abbrev pub first_from : (ℕ → Bool) → ℕ → ℕ → ℕ
first_from f a zero = a
first_from f a (suc n) = let later = first_from f (suc a) n in cond (f a) a later

-- the first j at which hit i's code occurs in hits i to j more often than in p; h where there is none.
-- So hit i is reasonable as the left end of (i, j) exactly for j below this
unfoldable pub reach : List ℕ → List ℕ → ℕ → ℕ
reach p g i = first_from (λ (j : ℕ). ltb (occ (get_or g i 0) p) (occ (get_or g i 0) (interval g i j))) i (length g - i)

-- the smallest i from which hit j's code occurs in hits i to j at most as often as in p.
-- So hit j is reasonable as the right end of (i, j) exactly for i from this on
unfoldable pub back : List ℕ → List ℕ → ℕ → ℕ
back p g j = first_from (λ (i : ℕ). leb (occ (get_or g j 0) (interval g i j)) (occ (get_or g j 0) p)) 0 (suc j)

-- m at the first row of block b in the last of n columns; 0 where the block begins behind that column
abbrev pub start_of : List ℕ → List ℕ → ℕ → ℕ → ℕ
start_of p g zero b = 0
start_of p g (suc j) b = shared p (interval g (b * block_rows) j)
