-- The bytes of printed and read lines.
use Rattle.std.specs.Prelude.{ℕ, ◌+◌, List, [], ◌∷◌}
use Prim.Native.Char.{code}
use Prim.Native.String.{String, [] as none, ◌∷◌ as ◌then◌}

-- the bytes of a text
abbrev pub as_bytes : String → List ℕ
as_bytes none = []
as_bytes (c then rest) = code c ∷ as_bytes rest

abbrev pub space : ℕ
space = 32

abbrev pub line_feed : ℕ
line_feed = 10

abbrev pub minus : ℕ
minus = 45

abbrev pub plus : ℕ
plus = 43

abbrev pub slash : ℕ
slash = 47

-- the decimal digit of a number below 10, as a byte
abbrev pub digit : ℕ → ℕ
digit n = 48 + n
