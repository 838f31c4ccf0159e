-- Saving a sketch: the words of its store, and what the call answers.
use Rattle.std.specs.Prelude.{ℕ, suc, Bool, true, cond, not, ◌&&◌, ◌||◌, List, [], ◌∷◌, eqb, ltb, length}
use Rattle.base.specs.Replies.{Reply, accepted, refused, after}
use Rattle.base.specs.Limits.{k_limit, w_limit, outside}
use Rattle.kmers.specs.Kmers.{Entry, entries}
use Rattle.store.specs.Words.{word, header, is_code, is_position}

-- for each entry a kind 1 word with the code and a kind 2 word with the position, and last a kind 3 word with the number n
abbrev pub entry_words : ℕ → List Entry → List ℕ
entry_words n [] = word 3 n ∷ []
entry_words n (e ∷ es) = word 1 e.code ∷ word 2 e.position ∷ entry_words n es

-- the store of a sketch made with k and w
unfoldable pub stored : ℕ → ℕ → List Entry → List ℕ
stored k w es = header k w ∷ entry_words (length es) es

-- each code is below 4^k, and the positions are at most 1,048,575 and rise strictly, from `low` on
abbrev pub storable : ℕ → ℕ → List Entry → Bool
storable k low [] = true
storable k low (e ∷ es) = is_code k e.code && is_position low e.position && storable k (suc e.position) es

-- what save answers, given the length of the output buffer: 1, 2, 5, 4 with the words needed, or the number of words
unfoldable pub save_reply : ℕ → ℕ → List ℕ → List ℕ → ℕ → Reply
save_reply k w cs ps room =
    cond (outside 1 k_limit k) (refused 1 [])
    (cond (outside 1 w_limit w) (refused 2 [])
    (cond (not (eqb (length cs) (length ps)) || not (storable k 0 (entries cs ps))) (refused 5 [])
    (cond (ltb room (length (stored k w (entries cs ps)))) (refused 4 (length (stored k w (entries cs ps)) ∷ []))
    (accepted (length (stored k w (entries cs ps)) ∷ [])))))

-- the output buffer after save, given as it came
unfoldable pub save_words : ℕ → ℕ → List ℕ → List ℕ → List ℕ → List ℕ
save_words k w cs ps words₀ = after (save_reply k w cs ps (length words₀)) (stored k w (entries cs ps)) words₀
