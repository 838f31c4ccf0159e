-- The windows of a run's k-mers, and the k-mer that a window picks.
use Rattle.std.specs.Prelude.{ℕ, Bool, false, cond, List, [], ◌∷◌, leb, ltb, eqb, length, take}
use Rattle.base.specs.Lists.{add_if}
use Rattle.kmers.specs.Kmers.{Entry, rank}

-- each w neighbouring k-mers
abbrev pub neighbours : ℕ → List Entry → List (List Entry)
neighbours w [] = []
neighbours w (e ∷ es) = add_if (leb w (length (e ∷ es))) (take w (e ∷ es)) (neighbours w es)

-- the windows of a run with these k-mers: each w neighbours; if there are fewer than w, but some, all of them form one
unfoldable pub windows : ℕ → List Entry → List (List Entry)
windows w [] = []
windows w (e ∷ es) = cond (ltb (length (e ∷ es)) w) ((e ∷ es) ∷ []) (neighbours w (e ∷ es))

-- of two k-mers, f standing to the right of e, the one of the lower rank, and f where the ranks are equal
unfoldable pub lower : Entry → Entry → Entry
lower e f = cond (leb (rank f.code) (rank e.code)) f e

-- what a window that begins with e picks: its lowest rank, and among equal ranks the rightmost
abbrev pub lowest : Entry → List Entry → Entry
lowest e [] = e
lowest e (f ∷ fs) = lowest (lower e f) fs

-- the window picks the k-mer at this position
abbrev pub picks : ℕ → List Entry → Bool
picks position [] = false
picks position (e ∷ es) = eqb position (lowest e es).position
