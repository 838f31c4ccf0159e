-- Slots that words are counted in, and looked up by.
use Rattle.std.specs.Prelude.{ℕ, ◌*◌, ◌/◌, ◌%◌, ◌≤◌, ◌<◌, ◌≡◌, Bool, List, ltb, length, get_or}
use Rattle.base.specs.Limits.{word_limit}
use Rattle.base.specs.Lists.{keep}
use Rattle.sorting.specs.Digits.{having}

abbrev pub slot_count : ℕ
slot_count = 65536

-- the slot of a word, by a multiplicative hash
unfoldable pub slot_of : ℕ → ℕ
slot_of word = word * 2246822519 % word_limit / 65536

-- how many of the words are in slot v
abbrev pub in_slot : List ℕ → ℕ → ℕ
in_slot words v = length (having slot_of v words)

-- the slot of a word holds more than `limit` of the words
abbrev pub crowds : List ℕ → ℕ → ℕ → Bool
crowds words limit word = ltb limit (in_slot words (slot_of word))

-- the words whose slot holds more than `limit` of them, in their order
unfoldable pub suspects_of : List ℕ → ℕ → List ℕ
suspects_of words limit = keep (crowds words limit) words

-- a head of each slot: 0, or an index of the list and one; and not 0 where a word of the list is in the slot
pub record Heads (list heads : List ℕ) : Type 0 where
  pub long : length heads ≡ slot_count
  pub within : (v : ℕ) → v < slot_count → get_or heads v 0 ≤ length list
  pub noted : (k : ℕ) → k < length list → 0 < get_or heads (slot_of (get_or list k 0)) 0
