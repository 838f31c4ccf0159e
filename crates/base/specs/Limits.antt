-- The limits of document 01, each once.
use Rattle.std.specs.Prelude.{ℕ, ◌^◌, Bool, ◌||◌, ltb}

-- k is 1 to 15
abbrev pub k_limit : ℕ
k_limit = 15

-- the window w is 1 to 64
abbrev pub w_limit : ℕ
w_limit = 64

-- at most 1,048,576 letters, so that a position is at most 1,048,575
abbrev pub letter_limit : ℕ
letter_limit = 1048576

-- a text of at most 65,535 entries; so c is 1 to 65,535, and the length of an interval at most that
abbrev pub text_limit : ℕ
text_limit = 65535

-- a pattern of at most 4,096 entries
abbrev pub pattern_limit : ℕ
pattern_limit = 4096

-- weights u and v are 1 to 1,000
abbrev pub weight_limit : ℕ
weight_limit = 1000

-- g, the divisor of the threshold f/g, is 1 to 1,000
abbrev pub divisor_limit : ℕ
divisor_limit = 1000

-- h is at most 2,048
abbrev pub hit_limit : ℕ
hit_limit = 2048

-- a session takes 16,384 work words
abbrev pub work_words : ℕ
work_words = 16384

-- the text line and the read line that `maplist` reads have at most 4,096 letters, as many as a pattern may have entries
abbrev pub line_limit : ℕ
line_limit = pattern_limit

-- numbers of 32 bits are below this
abbrev pub word_limit : ℕ
word_limit = 2 ^ 32

-- signed numbers of 32 bits are below this, and at least its negative
abbrev pub signed_limit : ℕ
signed_limit = 2 ^ 31

-- n is outside low to high
abbrev pub outside : ℕ → ℕ → ℕ → Bool
outside low high n = ltb n low || ltb high n
