-- How often a word occurs in a list of words, and the words of a list, each once.
use Rattle.std.specs.Prelude.{ℕ, ◌+◌, List, [], ◌∷◌, eqb}
use Rattle.base.specs.Lists.{bit, add_if}

-- how often x occurs in the list
abbrev pub occ : ℕ → List ℕ → ℕ
occ x [] = 0
occ x (y ∷ ys) = bit (eqb x y) + occ x ys

-- the words of the list, each once: a word is kept where it stands for the last time
abbrev pub distinct : List ℕ → List ℕ
distinct [] = []
distinct (y ∷ ys) = add_if (eqb (occ y ys) 0) y (distinct ys)
