-- The value of one of the eight letters by arithmetic, as 5/13 of document 02 has it.
use Rattle.std.specs.Prelude.{ℕ, suc, ◌-◌, ◌/◌, ◌%◌, cond, ◌||◌, List, [], ◌∷◌, eqb}

-- the eight: A, C, G, T and a, c, g, t
abbrev pub eight : List ℕ
eight = 65 ∷ 67 ∷ 71 ∷ 84 ∷ 97 ∷ 99 ∷ 103 ∷ 116 ∷ []

-- s with its lowest bit flipped: an even number becomes the next one, an odd one the one before
abbrev pub flipped : ℕ → ℕ
flipped s = cond (eqb (s % 2) 0) (suc s) (s - 1)

-- s with its lowest bit flipped when s is 2 or 3
abbrev pub flipped_high : ℕ → ℕ
flipped_high s = cond (eqb s 2 || eqb s 3) (flipped s) s

-- with s = (byte / 2) mod 4
unfoldable pub computed : ℕ → ℕ
computed b = flipped_high (b / 2 % 4)
