-- Loading a store: words are judged in order, and the first bad one is named by its index.
use Rattle.std.specs.Prelude.{ℕ, suc, cond, ◌||◌, List, [], ◌∷◌, eqb, ltb, length}
use Rattle.base.specs.Replies.{Reply, accepted, refused, after}
use Rattle.kmers.specs.Kmers.{Entry, codes, positions}
use Rattle.store.specs.Words.{kind, content, is_header, header_k, header_w, is_code_word, is_position_word}

-- a store's entries, or the number of the refusal and the index of the first bad word
pub data Judged : Type 0 where
  good : List Entry → Judged
  bad : ℕ → ℕ → Judged

-- the entry in front of those that the rest of the words hold
abbrev pub with_entry : Entry → Judged → Judged
with_entry e (good es) = good (e ∷ es)
with_entry e (bad number index) = bad number index

-- after the word with the number of entries no word may follow
abbrev pub at_end : ℕ → List ℕ → Judged
at_end index [] = good []
at_end index (x ∷ xs) = bad 14 index

-- the word with the number of entries, where n stood before it
unfoldable pub last_word : ℕ → ℕ → ℕ → List ℕ → Judged
last_word index n x rest = cond (eqb (content x) n) (at_end (suc index) rest) (bad 14 index)

-- what the words from index on hold, where a word of kind 1 or 3 is due, n entries stood before, and the next position is
-- at least `low`. Where words run out, the index is their number.
unfoldable pub judge_from : ℕ → ℕ → ℕ → ℕ → List ℕ → Judged
judge_from k index n low [] = bad 14 index
judge_from k index n low (x ∷ []) =
    cond (eqb (kind x) 3) (last_word index n x [])
    (cond (is_code_word k x) (bad 14 (suc index))
    (bad 13 index))
judge_from k index n low (x ∷ y ∷ rest) =
    cond (eqb (kind x) 3) (last_word index n x (y ∷ rest))
    (cond (is_code_word k x)
    (cond (is_position_word low y)
    (with_entry (record { code = content x; position = content y }) (judge_from k (suc (suc index)) (suc n) (suc (content y)) rest))
    (bad 13 (suc index)))
    (bad 13 index))

-- what a list of words holds as a store
unfoldable pub judge : List ℕ → Judged
judge [] = bad 12 0
judge (x ∷ rest) = cond (is_header x) (judge_from (header_k x) 1 0 0 rest) (bad 12 0)

-- k and w of a store, as its word 0 has them
unfoldable pub store_k : List ℕ → ℕ
store_k [] = 0
store_k (x ∷ rest) = header_k x

unfoldable pub store_w : List ℕ → ℕ
store_w [] = 0
store_w (x ∷ rest) = header_w x

-- n entries, with k and w before them; 4 with the entries needed where a buffer is shorter
unfoldable pub load_room : ℕ → ℕ → ℕ → ℕ → ℕ → Reply
load_room k w n code_room position_room =
    cond (ltb code_room n || ltb position_room n) (refused 4 (n ∷ [])) (accepted (k ∷ w ∷ n ∷ []))

abbrev pub judged_reply : ℕ → ℕ → Judged → ℕ → ℕ → Reply
judged_reply k w (bad number index) code_room position_room = refused number (index ∷ [])
judged_reply k w (good es) code_room position_room = load_room k w (length es) code_room position_room

-- what load answers, given the lengths of the two buffers: 12, 13 or 14 as met, then 4, or k, w and the number of entries
unfoldable pub load_reply : List ℕ → ℕ → ℕ → Reply
load_reply words code_room position_room = judged_reply (store_k words) (store_w words) (judge words) code_room position_room

-- the entries of a store that loads
abbrev pub entries_of : Judged → List Entry
entries_of (good es) = es
entries_of (bad number index) = []

-- the two buffers after load, given both as they came
unfoldable pub load_codes : List ℕ → List ℕ → List ℕ → List ℕ
load_codes words codes₀ positions₀ = after (load_reply words (length codes₀) (length positions₀)) (codes (entries_of (judge words))) codes₀

unfoldable pub load_positions : List ℕ → List ℕ → List ℕ → List ℕ
load_positions words codes₀ positions₀ =
    after (load_reply words (length codes₀) (length positions₀)) (positions (entries_of (judge words))) positions₀
