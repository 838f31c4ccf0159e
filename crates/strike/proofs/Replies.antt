-- What a strike answers and leaves in the buffers, check by check.
use Prim.Native.Nat.{ℕ, ◌≤◌, ◌<◌, min}
use mathlib.Core.Path.{◌≡◌, sym, ap, ◌∙◌}
use mathlib.Core.Logic.{◌≢◌}
use mathlib.Core.Bool.{true, false}
use mathlib.Core.List.{List, [], ◌∷◌}
use lib.ListN.{length}
use borrow.Author.Tests.{lt-ltb, le-ltb, eq-eqb, ne_eqb}
use Rattle.base.specs.Lists.{sum}
use Rattle.base.specs.Replies.{Reply, accepted, over, after}
use Rattle.base.specs.Refusals.{refused_by}
use Rattle.base.specs.declared.refusal.Refusal.{Refusal}
use Rattle.base.specs.Limits.{outside, text_limit}
use Rattle.kmers.specs.Kmers.{codes, positions, entries}
use Rattle.sketch.specs.Replies.{room_for}
use Rattle.sketch.proofs.Answering.{refusal_leaves, room_short, room_enough}
use Rattle.marking.specs.Marks.{marks_of}
use Rattle.strike.specs.Strike.{strike, strike_reply, strike_codes, strike_positions}
use Rattle.strike.specs.Marked.{marked_words}
use Rattle.strike.proofs.Marked.{strike_codes_lem, strike_positions_lem, strike_number}

-- ---- what is answered

module _ (deciding cs ps : List ℕ) (c a b : ℕ) where
  pub reply_unpaired : length cs ≢ length ps → strike_reply deciding cs ps c a b ≡ refused_by Refusal.BadEntries
  unfolding strike_reply
  reply_unpaired h = rw (ne_eqb (length cs) (length ps) h)

  module _ (paired : length cs ≡ length ps) where
    pub reply_many : text_limit < length deciding → strike_reply deciding cs ps c a b ≡ refused_by Refusal.TooManyEntries
    unfolding strike_reply
    reply_many h = rw (eq-eqb (length cs) (length ps) paired, lt-ltb text_limit (length deciding) h)

    module _ (few : length deciding ≤ text_limit) where
      pub reply_limit : outside 1 text_limit c ≡ true → strike_reply deciding cs ps c a b ≡ refused_by Refusal.BadLimit
      unfolding strike_reply
      reply_limit h = rw (eq-eqb (length cs) (length ps) paired, le-ltb text_limit (length deciding) few, h)

      module _ (within : outside 1 text_limit c ≡ false) (n : ℕ) (counted : n ≡ sum (marks_of deciding c cs)) where
        reply_room : strike_reply deciding cs ps c a b ≡ room_for n a b
        unfolding strike_reply
        reply_room =
            rw (eq-eqb (length cs) (length ps) paired, le-ltb text_limit (length deciding) few, within)
            (ap (λ (k : ℕ). room_for k a b) (strike_number deciding c cs ps paired ∙ sym counted))

        pub reply_short : min a b < n → strike_reply deciding cs ps c a b ≡ refused_by (Refusal.TooShort n)
        reply_short h = reply_room ∙ room_short n a b h

        pub reply_kept : n ≤ min a b → strike_reply deciding cs ps c a b ≡ accepted (n ∷ [])
        reply_kept h = reply_room ∙ room_enough n a b h

-- ---- the buffers

module _ (deciding cs ps : List ℕ) (c : ℕ) (codes₀ positions₀ : List ℕ) where
  abbrev reply : Reply
  reply = strike_reply deciding cs ps c (length codes₀) (length positions₀)

  -- a refusal changes no buffer
  pub refused_leaves : (r : Refusal) → reply ≡ refused_by r
      → (refused_by r ≡ reply)
      × (codes₀ ≡ strike_codes deciding cs ps c codes₀ positions₀)
      × (positions₀ ≡ strike_positions deciding cs ps c codes₀ positions₀)
  unfolding strike_codes strike_positions
  refused_leaves r e = (
    sym e,
    rw e (sym (refusal_leaves r (codes (strike deciding c (entries cs ps))) codes₀)),
    rw e (sym (refusal_leaves r (positions (strike deciding c (entries cs ps))) positions₀)),
  )

  -- the marked words of both are the entries kept
  pub kept_written : length cs ≡ length ps → (n : ℕ) (codes₁ positions₁ : List ℕ) → reply ≡ accepted (n ∷ [])
      → codes₁ ≡ over (marked_words (marks_of deciding c cs) cs) codes₀ → positions₁ ≡ over (marked_words (marks_of deciding c cs) ps) positions₀
      → (accepted (n ∷ []) ≡ reply)
      × (codes₁ ≡ strike_codes deciding cs ps c codes₀ positions₀)
      × (positions₁ ≡ strike_positions deciding cs ps c codes₀ positions₀)
  unfolding strike_codes strike_positions
  kept_written paired n codes₁ positions₁ e f g = (
    sym e,
    f ∙ ap (λ (l : List ℕ). over l codes₀) (sym (strike_codes_lem deciding c cs ps paired))
        ∙ sym (ap (λ (r : Reply). after r (codes (strike deciding c (entries cs ps))) codes₀) e),
    g ∙ ap (λ (l : List ℕ). over l positions₀) (sym (strike_positions_lem deciding c cs ps paired))
        ∙ sym (ap (λ (r : Reply). after r (positions (strike deciding c (entries cs ps))) positions₀) e),
  )
