-- The words of a store: 32 bits, the top two of them the kind.
use Rattle.std.specs.Prelude.{ℕ, ◌+◌, ◌*◌, ◌/◌, ◌%◌, ◌^◌, Bool, not, ◌&&◌, eqb, ltb, leb}
use Rattle.base.specs.Limits.{k_limit, w_limit, letter_limit, outside}

-- what the kind multiplies: bit 30
abbrev pub kind_unit : ℕ
kind_unit = 2 ^ 30

unfoldable pub kind : ℕ → ℕ
kind word = word / kind_unit

-- the 30 bits below the kind
unfoldable pub content : ℕ → ℕ
content word = word % kind_unit

unfoldable pub word : ℕ → ℕ → ℕ
word kind content = kind * kind_unit + content

-- word 0: kind 0, k in bits 0–4, w in bits 5–11, bits 12–29 zero
unfoldable pub header : ℕ → ℕ → ℕ
header k w = word 0 (w * 2 ^ 5 + k)

unfoldable pub header_k : ℕ → ℕ
header_k x = x % 2 ^ 5

unfoldable pub header_w : ℕ → ℕ
header_w x = x / 2 ^ 5 % 2 ^ 7

-- laid out as word 0 is, with k 1–15 and w 1–64
unfoldable pub is_header : ℕ → Bool
is_header x =
    eqb (kind x) 0
    && ltb (content x) (2 ^ 12)
    && not (outside 1 k_limit (header_k x))
    && not (outside 1 w_limit (header_w x))

-- a code of this k: below 4^k
unfoldable pub is_code : ℕ → ℕ → Bool
is_code k x = ltb x (4 ^ k)

-- a position is at most 1,048,575, and at least `low`: one more than the position before it, where there is one
unfoldable pub is_position : ℕ → ℕ → Bool
is_position low x = leb low x && ltb x letter_limit

-- a word that holds a code of this k
abbrev pub is_code_word : ℕ → ℕ → Bool
is_code_word k x = eqb (kind x) 1 && is_code k (content x)

-- a word that holds a position of at least `low`
abbrev pub is_position_word : ℕ → ℕ → Bool
is_position_word low x = eqb (kind x) 2 && is_position low (content x)
