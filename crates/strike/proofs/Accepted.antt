-- What an accepted strike says: both buffers hold the entries answered, which are those kept, and what was written into them.
use Prim.Native.Nat.{ℕ}
use mathlib.Core.Path.{◌≡◌}
use mathlib.Core.Bool.{not}
use mathlib.Core.List.{List, [], ◌∷◌}
use lib.Dec.{ltb, eqb}
use lib.ListN.{length}
use Rattle.base.specs.Replies.{accepted}
use Rattle.base.proofs.Replies.{not_refused}
use Rattle.base.specs.Limits.{outside, text_limit}
use Rattle.kmers.specs.Kmers.{entries}
use Rattle.sketch.proofs.Accepted.{Held, room_held, Wrote, reply_wrote}
use Rattle.strike.specs.Strike.{strike, strike_reply, strike_codes, strike_positions}

module _ (deciding cs ps : List ℕ) (c : ℕ) where
  pub strike_held : (a b m : ℕ) → strike_reply deciding cs ps c a b ≡ accepted (m ∷ []) → Held (length (strike deciding c (entries cs ps))) a b m
  unfolding strike_reply
  strike_held a b m e =
      let p = not_refused (not (eqb (length cs) (length ps))) 5 [] _ (m ∷ []) e in
      let q = not_refused (ltb text_limit (length deciding)) 8 [] _ (m ∷ []) p.1 in
      let r = not_refused (outside 1 text_limit c) 6 [] _ (m ∷ []) q.1 in
      room_held (length (strike deciding c (entries cs ps))) a b m r.1

  -- the entries kept stand in front of the two buffers
  pub strike_wrote : (codes₀ positions₀ : List ℕ) (m : ℕ)
      → strike_reply deciding cs ps c (length codes₀) (length positions₀) ≡ accepted (m ∷ [])
      → Wrote (strike deciding c (entries cs ps)) m (strike_codes deciding cs ps c codes₀ positions₀)
      (strike_positions deciding cs ps c codes₀ positions₀)
  unfolding strike_codes strike_positions
  strike_wrote codes₀ positions₀ m e =
      reply_wrote (strike_reply deciding cs ps c (length codes₀) (length positions₀)) (m ∷ []) (strike deciding c (entries cs ps)) codes₀
      positions₀ m e (strike_held (length codes₀) (length positions₀) m e).number
