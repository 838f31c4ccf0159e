-- What sketch and count answer, from the checks passed and the entries counted.
use Prim.Native.Nat.{ℕ, ◌≤◌, ◌<◌, min}
use native.Mathlib.Nat.{le_trans, min-le_left, min-le_right}
use native.Mathlib.Omega.{arith}
use mathlib.Core.Path.{◌≡◌, refl, sym, ap, ◌∙◌}
use mathlib.Core.Bool.{Bool, true, false}
use mathlib.Core.List.{List, [], ◌∷◌}
use Rattle.std.specs.Prelude.{Ok, Err}
use lib.Dec.{ltb}
use lib.ListN.{length}
use borrow.Author.Tests.{ltb-false, lt-ltb, le-ltb}
use Rattle.base.specs.Replies.{Reply, accepted, refused, over, after}
use Rattle.base.specs.Refusals.{refused_by}
use Rattle.base.specs.declared.refusal.Refusal.{Refusal}
use Rattle.base.specs.Limits.{k_limit, w_limit, letter_limit, outside}
use Rattle.kmers.specs.Kmers.{codes, positions}
use Rattle.minimizers.specs.Sketch.{sketch}
use Rattle.sketch.specs.Replies.{checked_letters, room_for, sketch_reply, sketch_codes, sketch_positions}
use Rattle.winnowing.specs.Winnowed.{Written, wrote, written}
use Rattle.sketch.specs.Answers.{Sketches}
use Rattle.sketch.proofs.Buffers.{written_all}

module _ (k w : ℕ) (letters : List ℕ) (rest : Reply) where
  pub checked_k : outside 1 k_limit k ≡ true → checked_letters k w letters rest ≡ refused 1 []
  unfolding checked_letters
  checked_k h = rw h

  pub checked_w : outside 1 k_limit k ≡ false → outside 1 w_limit w ≡ true → checked_letters k w letters rest ≡ refused 2 []
  unfolding checked_letters
  checked_w h i = rw (h, i)

  pub checked_many : outside 1 k_limit k ≡ false → outside 1 w_limit w ≡ false → letter_limit < length letters
      → checked_letters k w letters rest ≡ refused 3 []
  unfolding checked_letters
  checked_many h i l = rw (h, i, lt-ltb letter_limit (length letters) l)

  pub checked_all : outside 1 k_limit k ≡ false → outside 1 w_limit w ≡ false → length letters ≤ letter_limit
      → checked_letters k w letters rest ≡ rest
  unfolding checked_letters
  checked_all h i l = rw (h, i, le-ltb letter_limit (length letters) l)

-- the room of the shorter buffer decides
pub room_short : (n a b : ℕ) → min a b < n → room_for n a b ≡ refused 4 (n ∷ [])
unfolding room_for
room_short n a b h = go (ltb a n) refl
  where
    go : (t : Bool) → ltb a n ≡ t → room_for n a b ≡ refused 4 (n ∷ [])
    go true e = rw e
    go false e =
        let l : n ≤ a = ltb-false a n e in
        rw (e, lt-ltb b n (omega arith))

pub room_enough : (n a b : ℕ) → n ≤ min a b → room_for n a b ≡ accepted (n ∷ [])
unfolding room_for
room_enough n a b h =
    rw (le-ltb a n (le_trans h (min-le_left a b)), le-ltb b n (le_trans h (min-le_right a b)))

-- a refusal leaves a lent buffer
pub refusal_leaves : (r : Refusal) (new old : List ℕ) → after (refused_by r) new old ≡ old
refusal_leaves Refusal.BadK new old = refl
refusal_leaves Refusal.BadW new old = refl
refusal_leaves Refusal.TooManyLetters new old = refl
refusal_leaves (Refusal.TooShort needed) new old = refl
refusal_leaves Refusal.BadEntries new old = refl
refusal_leaves Refusal.BadLimit new old = refl
refusal_leaves Refusal.BadWeights new old = refl
refusal_leaves Refusal.TooManyEntries new old = refl
refusal_leaves Refusal.BadPattern new old = refl
refusal_leaves Refusal.TooFewWords new old = refl
refusal_leaves (Refusal.TooManyHits h) new old = refl
refusal_leaves (Refusal.BadHeader index) new old = refl
refusal_leaves (Refusal.BadWord index) new old = refl
refusal_leaves (Refusal.BadEnd index) new old = refl
refusal_leaves Refusal.BadWords new old = refl
refusal_leaves Refusal.BadCounts new old = refl
refusal_leaves Refusal.BadFraction new old = refl

module _ (k w : ℕ) (letters cs ps : List ℕ) where
  pub sketches_refused : (r : Refusal) → sketch_reply k w letters (length cs) (length ps) ≡ refused_by r → Sketches k w letters cs ps (Err r) cs ps
  unfolding sketch_codes sketch_positions
  sketches_refused r reply =
      record {
        answer = sym reply;
        codes_after = rw reply (sym (refusal_leaves r (codes (sketch k w letters)) cs));
        positions_after = rw reply (sym (refusal_leaves r (positions (sketch k w letters)) ps));
      }

  -- an accepted call writes the whole sketch
  pub sketches_accepted : (room n : ℕ) (cs' ps' : List ℕ) → length (sketch k w letters) ≤ room → room ≤ length cs → room ≤ length ps
      → wrote n cs' ps' ≡ written room 0 cs ps (sketch k w letters)
      → sketch_reply k w letters (length cs) (length ps) ≡ accepted (length (sketch k w letters) ∷ [])
      → Sketches k w letters cs ps (Ok n) cs' ps'
  unfolding sketch_codes sketch_positions
  sketches_accepted room n cs' ps' h hc hp wrote-all reply =
      let all : wrote n cs' ps' ≡ wrote (length (sketch k w letters)) (over (codes (sketch k w letters)) cs) (over (positions (sketch k w letters)) ps) =
      wrote-all ∙ written_all room cs ps (sketch k w letters) h hc hp in
      record {
        answer = ap (λ (x : Written). accepted (x.entries ∷ [])) all ∙ sym reply;
        codes_after = rw reply (ap (λ (x : Written). x.codes) all);
        positions_after = rw reply (ap (λ (x : Written). x.positions) all);
      }
