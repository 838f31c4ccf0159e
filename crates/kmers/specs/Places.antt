-- K-mers by their position among all the letters: what the functions that scan letters speak of.
use Rattle.std.specs.Prelude.{ℕ, suc, ◌+◌, ◌-◌, cond, List, [], ◌∷◌, map, take, drop}
use Rattle.base.specs.Lists.{range}
use Rattle.kmers.specs.Letters.{value, is_foreign}
use Rattle.kmers.specs.Kmers.{Entry, code_of, rank}

-- the code of the k letters from position p on
unfoldable pub code_at : ℕ → List ℕ → ℕ → ℕ
code_at k letters p = code_of (map value (take k (drop p letters)))

unfoldable pub rank_at : ℕ → List ℕ → ℕ → ℕ
rank_at k letters p = rank (code_at k letters p)

abbrev pub entry_at : ℕ → List ℕ → ℕ → Entry
entry_at k letters p = record { code = code_at k letters p; position = p }

-- the k-mers from position `from` up to, and without, position `to`
abbrev pub span : ℕ → List ℕ → ℕ → ℕ → List Entry
span k letters from to = map (entry_at k letters) (range from (to - from))

-- how many letters stand before the first one outside the eight
abbrev pub run_length : List ℕ → ℕ
run_length [] = 0
run_length (a ∷ l) = cond (is_foreign a) 0 (suc (run_length l))

-- the end of the run that begins at position `at`: the position of the next letter outside the eight, or of the end
unfoldable pub run_end : List ℕ → ℕ → ℕ
run_end letters at = at + run_length (drop at letters)
