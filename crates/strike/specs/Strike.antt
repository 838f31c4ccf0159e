-- Striking frequent k-mers from a sketch, and what the two calls that strike answer.
use Rattle.std.specs.Prelude.{ℕ, cond, not, List, [], leb, ltb, eqb, length}
use Rattle.base.specs.Lists.{keep}
use Rattle.base.specs.Counts.{occ}
use Rattle.base.specs.Replies.{Reply, refused, after}
use Rattle.base.specs.Limits.{outside, text_limit}
use Rattle.kmers.specs.Kmers.{Entry, codes, positions, entries}
use Rattle.sketch.specs.Replies.{room_for}

-- striking with limit c: the entries whose code occurs at most c times among the codes that decide, in their order
unfoldable pub strike : List ℕ → ℕ → List Entry → List Entry
strike deciding c es = keep (λ (e : Entry). leb (occ e.code deciding) c) es

-- a text's sketch, struck: its own codes decide
unfoldable pub struck : ℕ → List Entry → List Entry
struck c es = strike (codes es) c es

-- what a strike answers, given the codes that decide, the codes and positions to strike, c, and the lengths of the two output
-- buffers: 5, 8, 6, 4, or the number of entries kept
unfoldable pub strike_reply : List ℕ → List ℕ → List ℕ → ℕ → ℕ → ℕ → Reply
strike_reply deciding cs ps c code_room position_room =
    cond (not (eqb (length cs) (length ps))) (refused 5 [])
    (cond (ltb text_limit (length deciding)) (refused 8 [])
    (cond (outside 1 text_limit c) (refused 6 [])
    (room_for (length (strike deciding c (entries cs ps))) code_room position_room)))

-- the two output buffers after a strike, given both as they came
unfoldable pub strike_codes : List ℕ → List ℕ → List ℕ → ℕ → List ℕ → List ℕ → List ℕ
strike_codes deciding cs ps c codes₀ positions₀ =
    after (strike_reply deciding cs ps c (length codes₀) (length positions₀)) (codes (strike deciding c (entries cs ps))) codes₀

unfoldable pub strike_positions : List ℕ → List ℕ → List ℕ → ℕ → List ℕ → List ℕ → List ℕ
strike_positions deciding cs ps c codes₀ positions₀ =
    after (strike_reply deciding cs ps c (length codes₀) (length positions₀)) (positions (strike deciding c (entries cs ps))) positions₀
