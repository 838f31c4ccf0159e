-- Words looked up in a list in order: by the head of their slot, or else by a search.
use Prim.Native.Nat.{ℕ, ◌+◌, ◌≤◌, ◌<◌, zero-le}
use native.Mathlib.Nat.{le_refl}
use native.Mathlib.Omega.{arith}
use mathlib.Core.Path.{◌≡◌, refl, sym, ap, ◌∙◌}
use mathlib.Core.Logic.{◌⊎◌, inl, inr, ◌≢◌}
use mathlib.Core.List.{List, [], ◌∷◌}
use lib.ListN.{length, get_or, set, replicate, length-set, length-map, length-replicate, get_or-replicate}
use lib.Seq.{get_or-set_same, get_or-set_other}
use Rattle.base.specs.Zeros.{copies, zeros}
use Rattle.base.specs.Counts.{occ}
use Rattle.base.proofs.Lists.{eq_or_ne, get_d_map}
use Rattle.base.proofs.Writing.{Written, written_more}
use Rattle.sorting.specs.Sorting.{Sorted}
use Rattle.sorting.specs.Searching.{searched}
use Rattle.marking.specs.Marks.{mark_of, marks_of}
use Rattle.marking.specs.Slots.{slot_count, slot_of, Heads}
use Rattle.marking.proofs.Present.{occ_at, found, mark_present, mark_absent}

-- ---- the heads of the slots

-- the heads after the first i words of the list
pub record Noting (list : List ℕ) (i : ℕ) (heads : List ℕ) : Type 0 where
  pub passed : i ≤ length list
  pub long : length heads ≡ slot_count
  pub within : (v : ℕ) → v < slot_count → get_or heads v 0 ≤ i
  pub noted : (k : ℕ) → k < i → 0 < get_or heads (slot_of (get_or list k 0)) 0

-- a list of zeros, of any size: where the size is known, the list would be written out
zeros_long : (size : ℕ) (heads : List ℕ) → heads ≡ zeros size → length heads ≡ size
unfolding copies
zeros_long size heads e = ap length e ∙ length-replicate {A = ℕ} size 0

zeros_at : (size : ℕ) (heads : List ℕ) → heads ≡ zeros size → (v : ℕ) → v < size → get_or heads v 0 ≡ 0
unfolding copies
zeros_at size heads e v h = rw e (get_or-replicate size v 0 0 h)

pub noting_none : (list heads : List ℕ) → heads ≡ zeros slot_count → Noting list 0 heads
noting_none list heads e =
    record {
      passed = zero-le;
      long = zeros_long slot_count heads e;
      within = λ v h. let none : get_or heads v 0 ≡ 0 = zeros_at slot_count heads e v h in omega arith;
      noted = λ k h. absurd (omega arith);
    }

pub noting_more : (list : List ℕ) (i : ℕ) (heads : List ℕ) (at : ℕ) → Noting list i heads → i < length list → at ≡ slot_of (get_or list i 0)
    → at < slot_count
    → Noting list (i + 1) (set heads at (i + 1))
noting_more list i heads at n h e l =
    record {
      passed = omega arith;
      long = length-set heads at (i + 1) ∙ n.long;
      within = λ v m. low v m (eq_or_ne v at);
      noted = λ k m. some k m (eq_or_ne (slot_of (get_or list k 0)) at);
    }
  where
    same : get_or (set heads at (i + 1)) at 0 ≡ i + 1
    same = get_or-set_same heads at (i + 1) 0 (rw n.long l)

    low : (v : ℕ) → v < slot_count → (v ≡ at) ⊎ (v ≢ at) → get_or (set heads at (i + 1)) v 0 ≤ i + 1
    low v m (inl p) = rw (p, same) (le_refl (i + 1))
    low v m (inr p) = rw (get_or-set_other heads at v (i + 1) 0 p) (let r : get_or heads v 0 ≤ i = n.within v m in omega arith)

    some : (k : ℕ) → k < i + 1 → (slot_of (get_or list k 0) ≡ at) ⊎ (slot_of (get_or list k 0) ≢ at)
        → 0 < get_or (set heads at (i + 1)) (slot_of (get_or list k 0)) 0
    some k m (inl p) = rw (p, same) (omega arith)
    some k m (inr p) =
        let q : k ≢ i = λ r. p (ap (λ (a : ℕ). slot_of (get_or list a 0)) r ∙ sym e) in
        rw (get_or-set_other heads at (slot_of (get_or list k 0)) (i + 1) 0 p) (n.noted k (omega arith))

-- ---- the mark of a word

pub mark_at : (list : List ℕ) (x k : ℕ) → k < length list → get_or list k 0 ≡ x → 0 ≡ mark_of list 0 x
mark_at list x k h e = mark_present list x (rw e at (occ_at list k h))

module _ (list : List ℕ) (in_order : Sorted list) (x : ℕ) where
  -- no head is noted for the word's slot
  pub mark_no_head : (heads : List ℕ) (at : ℕ) → Heads list heads → at ≡ slot_of x → get_or heads at 0 ≡ 0 → 1 ≡ mark_of list 0 x
  mark_no_head heads at n e z = mark_absent list x none
    where
      none : 0 < occ x list → ⊥
      none h =
          let here = found list in_order x h in
          let some : 0 < get_or heads (slot_of (get_or list (searched list x) 0)) 0 = n.noted (searched list x) here.0 in
          let same : get_or heads (slot_of (get_or list (searched list x) 0)) 0 ≡ 0 =
          ap (λ (y : ℕ). get_or heads (slot_of y) 0) here.1 ∙ ap (λ (v : ℕ). get_or heads v 0) (sym e) ∙ z
          in
          omega arith

  -- the search ends behind the list
  pub mark_beyond : (at : ℕ) → at ≡ searched list x → length list ≤ at → 1 ≡ mark_of list 0 x
  mark_beyond at e h = mark_absent list x (λ m. let l : searched list x < length list = (found list in_order x m).0 in omega arith)

  -- the search ends at another word
  pub mark_other : (at : ℕ) → at ≡ searched list x → get_or list at 0 ≢ x → 1 ≡ mark_of list 0 x
  mark_other at e n = mark_absent list x (λ m. n (ap (λ (k : ℕ). get_or list k 0) e ∙ (found list in_order x m).1))

-- ---- the marks of words

module _ (list words : List ℕ) where
  -- the mark of one word more is written
  pub marks_more : (old now : List ℕ) (i mark : ℕ) → length old ≡ length words → i < length words → mark ≡ mark_of list 0 (get_or words i 0)
      → Written (marks_of list 0 words) old i now
      → Written (marks_of list 0 words) old (i + 1) (set now i mark)
  marks_more old now i mark l h e w =
      let n : length (marks_of list 0 words) ≡ length words = length-map words (mark_of list 0) in
      written_more (marks_of list 0 words) old i now mark w (omega arith) (omega arith) (e ∙ sym (get_d_map (mark_of list 0) words i h))

marks_empty : (words : List ℕ) → replicate (length words) 1 ≡ marks_of [] 0 words
marks_empty [] = refl
marks_empty (w ∷ ws) = ap (λ (l : List ℕ). 1 ∷ l) (marks_empty ws)

-- no word is of the empty list
pub marks_none : (list words now : List ℕ) (n : ℕ) → length list ≡ 0 → n ≡ length words → now ≡ replicate n 1 → now ≡ marks_of list 0 words
marks_none [] words now n h l e = e ∙ ap (λ (k : ℕ). replicate k 1) l ∙ marks_empty words
marks_none (x ∷ xs) words now n h l e = absurd (omega arith)
