-- What an accepted sketch says: k and the letters are within their limits, both buffers hold the entries answered, and what was written
-- into them. A session rests on these laws, and not on how a sketch is made.
use Prim.Native.Nat.{ℕ, ◌+◌, ◌≤◌, ◌<◌}
use mathlib.Core.Path.{◌≡◌, sym, ◌∙◌}
use mathlib.Core.Bool.{◌||◌}
use mathlib.Core.List.{List, [], ◌∷◌}
use lib.Dec.{ltb}
use lib.ListN.{length, get_or, take, drop}
use lib.Seq.{take-append_seam}
use borrow.Author.Tests.{ltb-false}
use Rattle.base.specs.Replies.{Reply, accepted, after}
use Rattle.base.proofs.Lists.{or_neither}
use Rattle.base.proofs.Replies.{not_refused}
use Rattle.base.specs.Limits.{k_limit, w_limit, letter_limit, outside}
use Rattle.kmers.specs.Kmers.{Entry, codes, positions, entries}
use Rattle.minimizers.specs.Sketch.{sketch}
use Rattle.kmers.proofs.Entries.{length_codes, length_positions, entries_same}
use Rattle.minimizers.proofs.Laws.{positions_strictly, positions_inside}
use Rattle.sketch.specs.Replies.{checked_letters, room_for, sketch_reply, sketch_codes, sketch_positions}

-- the entries answered are those needed, and both buffers hold them
pub record Held (n code_room position_room m : ℕ) : Type 0 where
  pub number : m ≡ n
  pub in_codes : m ≤ code_room
  pub in_positions : m ≤ position_room

pub room_held : (n a b m : ℕ) → room_for n a b ≡ accepted (m ∷ []) → Held n a b m
unfolding room_for
room_held n a b m e =
    let p = not_refused (ltb a n || ltb b n) 4 (n ∷ []) _ (m ∷ []) e in
    let g : accepted (n ∷ []) ≡ accepted (m ∷ []) = p.1 in
    let same : m ≡ n = cc in
    let short = or_neither (ltb a n) (ltb b n) p.0 in
    record {
      number = same;
      in_codes = rw same (ltb-false a n short.0);
      in_positions = rw same (ltb-false b n short.1);
    }

pub sketch_held : (k w : ℕ) (letters : List ℕ) (a b m : ℕ) → sketch_reply k w letters a b ≡ accepted (m ∷ [])
    → Held (length (sketch k w letters)) a b m
unfolding sketch_reply checked_letters
sketch_held k w letters a b m e =
    let p = not_refused (outside 1 k_limit k) 1 [] _ (m ∷ []) e in
    let q = not_refused (outside 1 w_limit w) 2 [] _ (m ∷ []) p.1 in
    let r = not_refused (ltb letter_limit (length letters)) 3 [] _ (m ∷ []) q.1 in
    room_held (length (sketch k w letters)) a b m r.1

pub sketch_limits : (k w : ℕ) (letters : List ℕ) (a b : ℕ) (values : List ℕ) → sketch_reply k w letters a b ≡ accepted values
    → (1 ≤ k) × (k ≤ k_limit) × (length letters ≤ letter_limit)
unfolding sketch_reply checked_letters
sketch_limits k w letters a b values e =
    let p = not_refused (outside 1 k_limit k) 1 [] _ values e in
    let q = not_refused (outside 1 w_limit w) 2 [] _ values p.1 in
    let r = not_refused (ltb letter_limit (length letters)) 3 [] _ values q.1 in
    let ks = or_neither (ltb k 1) (ltb k_limit k) p.0 in
    (ltb-false k 1 ks.0, ltb-false k_limit k ks.1, ltb-false letter_limit (length letters) r.0)

-- ---- what an accepted call wrote

-- in front of two buffers stand these entries: a word of each buffer for an entry, so that codes and positions pair
pub record Wrote (es : List Entry) (n : ℕ) (codes' positions' : List ℕ) : Type 0 where
  pub number : n ≡ length es
  pub codes_are : take n codes' ≡ codes es
  pub positions_are : take n positions' ≡ positions es
  pub paired : entries (take n codes') (take n positions') ≡ es

front : (reply : Reply) (values new old : List ℕ) (n : ℕ) → reply ≡ accepted values → n ≡ length new → take n (after reply new old) ≡ new
front reply values new old n e l = rw (e, l) (take-append_seam new (drop (length new) old))

pub reply_wrote : (reply : Reply) (values : List ℕ) (es : List Entry) (codes₀ positions₀ : List ℕ) (n : ℕ) → reply ≡ accepted values
    → n ≡ length es
    → Wrote es n (after reply (codes es) codes₀) (after reply (positions es) positions₀)
reply_wrote reply values es codes₀ positions₀ n e l =
    let cs : take n (after reply (codes es) codes₀) ≡ codes es = front reply values (codes es) codes₀ n e (l ∙ sym (length_codes es)) in
    let ps : take n (after reply (positions es) positions₀) ≡ positions es =
    front reply values (positions es) positions₀ n e (l ∙ sym (length_positions es)) in
    record { number = l; codes_are = cs; positions_are = ps; paired = rw (cs, ps) (entries_same es) }

pub sketch_wrote : (k w : ℕ) (letters codes₀ positions₀ : List ℕ) (n : ℕ)
    → sketch_reply k w letters (length codes₀) (length positions₀) ≡ accepted (n ∷ [])
    → Wrote (sketch k w letters) n (sketch_codes k w letters codes₀ positions₀) (sketch_positions k w letters codes₀ positions₀)
unfolding sketch_codes sketch_positions
sketch_wrote k w letters codes₀ positions₀ n e =
    reply_wrote (sketch_reply k w letters (length codes₀) (length positions₀)) (n ∷ []) (sketch k w letters) codes₀ positions₀ n e
    (sketch_held k w letters (length codes₀) (length positions₀) n e).number

-- positions rise strictly, and each k-mer lies within the letters
pub record Placed (k : ℕ) (letters ps : List ℕ) : Type 0 where
  pub rising : (i j : ℕ) → i < j → j < length ps → get_or ps i 0 < get_or ps j 0
  pub inside : (i : ℕ) → i < length ps → get_or ps i 0 + k ≤ length letters

pub sketch_placed : (k w : ℕ) (letters : List ℕ) (a b : ℕ) (values : List ℕ) → sketch_reply k w letters a b ≡ accepted values
    → Placed k letters (positions (sketch k w letters))
sketch_placed k w letters a b values e =
    let some = (sketch_limits k w letters a b values e).0 in
    record { rising = positions_strictly k w letters some; inside = positions_inside k w letters some }
