-- The k-mers of a run, each with its code and position, and the rank of a code.
use Rattle.std.specs.Prelude.{ℕ, suc, ◌+◌, ◌*◌, ◌%◌, ◌^◌, List, [], ◌∷◌, map, leb, length, take}
use Rattle.base.specs.Lists.{add_if}

-- a k-mer's code, and its position: the index, from 0, of its first letter
pub record Entry : Type 0 where
  pub code : ℕ
  pub position : ℕ

-- the number with these base-4 digits behind the ones of n, the first digit highest
abbrev pub digits : ℕ → List ℕ → ℕ
digits n [] = n
digits n (v ∷ vs) = digits (4 * n + v) vs

-- the code of a k-mer: its letters as base-4 digits, first letter highest
unfoldable pub code_of : List ℕ → ℕ
code_of vs = digits 0 vs

-- the k-mers of a run whose first letter has index `at`: k neighbouring letters of the run
unfoldable pub kmers : ℕ → ℕ → List ℕ → List Entry
kmers k at [] = []
kmers k at (v ∷ vs) =
    add_if (leb k (length (v ∷ vs))) (record { code = code_of (take k (v ∷ vs)); position = at }) (kmers k (suc at) vs)

-- the rank of a code: (code × 2,654,435,761) mod 2^30, a house rule of 01
unfoldable pub rank : ℕ → ℕ
rank code = code * 2654435761 % 2 ^ 30

abbrev pub codes : List Entry → List ℕ
codes es = map (λ (e : Entry). e.code) es

abbrev pub positions : List Entry → List ℕ
positions es = map (λ (e : Entry). e.position) es

-- the entries that stand in two buffers, one word of each for an entry
abbrev pub entries : List ℕ → List ℕ → List Entry
entries [] ps = []
entries (c ∷ cs) [] = []
entries (c ∷ cs) (p ∷ ps) = record { code = c; position = p } ∷ entries cs ps
