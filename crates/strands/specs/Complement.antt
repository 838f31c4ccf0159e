-- The reverse complement of a read, what the call answers, and its output afterwards.
use Rattle.std.specs.Prelude.{ℕ, cond, List, [], ◌∷◌, map, reverse, leb, length}
use Rattle.base.specs.Replies.{Reply, accepted, refused, after}
use Rattle.kmers.specs.Letters.{either_case}

-- A with T and C with G, from either case into upper case; other bytes are kept
unfoldable pub complement : ℕ → ℕ
complement b =
    cond (either_case 65 97 b) 84
    (cond (either_case 67 99 b) 71
    (cond (either_case 71 103 b) 67
    (cond (either_case 84 116 b) 65
    b)))

-- the complements of the letters in reverse order
unfoldable pub reverse_complement : List ℕ → List ℕ
reverse_complement letters = reverse (map complement letters)

-- the bytes written; or 4 with the bytes needed, where the output is shorter than the read
unfoldable pub complement_reply : List ℕ → ℕ → Reply
complement_reply read room = cond (leb (length read) room) (accepted (length read ∷ [])) (refused 4 (length read ∷ []))

-- the output afterwards: bytes past the last one written stay
unfoldable pub complement_bytes : List ℕ → List ℕ → List ℕ
complement_bytes read out = after (complement_reply read (length out)) (reverse_complement read) out
