-- What the calls that make and count a sketch answer.
use Rattle.std.specs.Prelude.{ℕ, cond, ◌||◌, List, [], ◌∷◌, ltb, length, ℤ, pos, neg_ℤ}
use Rattle.base.specs.Replies.{Reply, accepted, refused, after}
use Rattle.base.specs.Limits.{k_limit, w_limit, letter_limit, outside}
use Rattle.kmers.specs.Kmers.{codes, positions}
use Rattle.minimizers.specs.Sketch.{sketch}

-- the checks that sketch and count share, 1, 2 and 3, and then what is left to answer
unfoldable pub checked_letters : ℕ → ℕ → List ℕ → Reply → Reply
checked_letters k w letters rest =
    cond (outside 1 k_limit k) (refused 1 [])
    (cond (outside 1 w_limit w) (refused 2 [])
    (cond (ltb letter_limit (length letters)) (refused 3 [])
    rest))

-- 4 with the n entries needed, where the buffer for codes or that for positions is shorter; else n
unfoldable pub room_for : ℕ → ℕ → ℕ → Reply
room_for n code_room position_room = cond (ltb code_room n || ltb position_room n) (refused 4 (n ∷ [])) (accepted (n ∷ []))

-- what sketch answers, given the lengths of the two buffers: 1, 2, 3, 4, or the number of entries
unfoldable pub sketch_reply : ℕ → ℕ → List ℕ → ℕ → ℕ → Reply
sketch_reply k w letters code_room position_room = checked_letters k w letters (room_for (length (sketch k w letters)) code_room position_room)

-- the two buffers after sketch, given both as they came
unfoldable pub sketch_codes : ℕ → ℕ → List ℕ → List ℕ → List ℕ → List ℕ
sketch_codes k w letters codes₀ positions₀ = after (sketch_reply k w letters (length codes₀) (length positions₀)) (codes (sketch k w letters)) codes₀

unfoldable pub sketch_positions : ℕ → ℕ → List ℕ → List ℕ → List ℕ → List ℕ
sketch_positions k w letters codes₀ positions₀ =
    after (sketch_reply k w letters (length codes₀) (length positions₀)) (positions (sketch k w letters)) positions₀

-- a reply as one signed number for the host program: the number answered, or the refusal number negated
abbrev pub host_number : Reply → ℤ
host_number (accepted []) = pos 0
host_number (accepted (n ∷ ns)) = pos n
host_number (refused number values) = neg_ℤ (pos number)

-- what count answers: 1, 2, 3, or the count of entries that a sketch would have
unfoldable pub count_reply : ℕ → ℕ → List ℕ → Reply
count_reply k w letters = checked_letters k w letters (accepted (length (sketch k w letters) ∷ []))
