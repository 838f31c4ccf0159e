-- The numbers of the rank by name, and the way from a rank back to its code.
use Rattle.std.specs.Prelude.{ℕ, ◌*◌, ◌%◌, ◌^◌}

abbrev pub multiplier : ℕ
multiplier = 2654435761

abbrev pub rank_modulus : ℕ
rank_modulus = 2 ^ 30

-- what takes a rank back to its code: 2,654,435,761 · 244,002,641 mod 2^30 = 1
abbrev pub inverse : ℕ
inverse = 244002641

unfoldable pub unrank : ℕ → ℕ
unrank r = r * inverse % rank_modulus
