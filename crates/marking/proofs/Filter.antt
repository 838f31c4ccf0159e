-- Laws of the filter: what its loop keeps, and that the words it lets through have the same marks.
use Prim.Native.Nat.{ℕ, suc, ◌+◌, ◌*◌, ◌≤◌, ◌<◌}
use native.Mathlib.Omega.{arith}
use native.Mathlib.Numerals.{add-one}
use mathlib.Core.Path.{◌≡◌, refl, sym, ap, ◌∙◌}
use mathlib.Core.Bool.{Bool, true, false}
use mathlib.Core.List.{List, [], ◌∷◌, ◌++◌, append-nil}
use lib.Dec.{eqb, leb}
use lib.ListN.{length, get_or, set, take}
use lib.Seq.{take-suc, take_all, take-set-le, take-suc-set}
use borrow.Author.Tests.{eq-eqb, le-leb, ltb-false}
use Rattle.base.specs.Lists.{bit, add_if, keep}
use Rattle.base.specs.Counts.{occ}
use Rattle.base.proofs.Lists.{keep_append}
use Rattle.base.proofs.Counts.{occ_le_length, occ_keep}
use Rattle.sorting.specs.Digits.{having}
use Rattle.marking.specs.Marks.{mark_of}
use Rattle.marking.specs.Slots.{slot_of, in_slot, crowds, suspects_of}

-- ---- the marks of the words that it lets through

-- a word occurs at most as often as its slot holds words
occ_in_slot : (words : List ℕ) (x : ℕ) → occ x words ≤ in_slot words (slot_of x)
occ_in_slot words x =
    let same : occ x (having slot_of (slot_of x) words) ≡ bit (eqb (slot_of x) (slot_of x)) * occ x words =
    occ_keep (λ (word : ℕ). eqb (slot_of word) (slot_of x)) x words in
    let one : bit (eqb (slot_of x) (slot_of x)) ≡ 1 = ap bit (eq-eqb (slot_of x) (slot_of x) refl) in
    let all : occ x (having slot_of (slot_of x) words) ≡ 1 * occ x words = rw one at same in
    let few : occ x (having slot_of (slot_of x) words) ≤ in_slot words (slot_of x) = occ_le_length x (having slot_of (slot_of x) words) in
    omega arith

pub suspects_mark : (words : List ℕ) (limit x : ℕ) → mark_of (suspects_of words limit) limit x ≡ mark_of words limit x
unfolding suspects_of
suspects_mark words limit x = go (crowds words limit x) refl (occ_keep (crowds words limit) x words)
  where
    go : (b : Bool) → crowds words limit x ≡ b → occ x (suspects_of words limit) ≡ bit (crowds words limit x) * occ x words
        → mark_of (suspects_of words limit) limit x ≡ mark_of words limit x
    go true e k =
        let all : occ x (suspects_of words limit) ≡ 1 * occ x words = rw e at k in
        let same : occ x (suspects_of words limit) ≡ occ x words = omega arith in
        ap (λ (n : ℕ). bit (leb n limit)) same
    go false e k =
        let none : occ x (suspects_of words limit) ≡ 0 * occ x words = rw e at k in
        let few : in_slot words (slot_of x) ≤ limit = ltb-false limit (in_slot words (slot_of x)) e in
        let held : occ x words ≤ in_slot words (slot_of x) = occ_in_slot words x in
        ap bit (le-leb (occ x (suspects_of words limit)) limit (omega arith) ∙ sym (le-leb (occ x words) limit (omega arith)))

-- ---- the words that pass a test, copied to the start of a buffer

pub record Collected (f : ℕ → Bool) (words : List ℕ) (i at : ℕ) (out : List ℕ) : Type 0 where
  pub within : i ≤ length words
  pub few : at ≤ i
  pub kept : take at out ≡ keep f (take i words)

module _ (f : ℕ → Bool) (words : List ℕ) where
  -- one word more, of which the test is b
  kept_more : (b : Bool) (i at : ℕ) (out : List ℕ) → f (get_or words i 0) ≡ b → at < length out → i < length words
      → take at out ≡ keep f (take i words)
      → take (at + bit b) (set out at (get_or words i 0)) ≡ keep f (take (suc i) words)
  kept_more b i at out e h l k = rw (take-suc words i 0 l, keep_append f (take i words) (get_or words i 0 ∷ []), e) (go b)
    where
      go : (b : Bool) → take (at + bit b) (set out at (get_or words i 0)) ≡ keep f (take i words) ++ add_if b (get_or words i 0) []
      go true = rw (add-one at) (take-suc-set out at (get_or words i 0) h ∙ ap (λ (l : List ℕ). l ++ get_or words i 0 ∷ []) k)
      go false =
          let same : at + 0 ≡ at = omega arith in
          rw same (take-set-le at out at (get_or words i 0) (omega arith) ∙ k ∙ sym (append-nil (keep f (take i words))))

  pub collected_more : (i at step : ℕ) (out : List ℕ) → Collected f words i at out → i < length words → length words ≤ length out
      → step ≡ bit (f (get_or words i 0)) → step ≤ 1
      → Collected f words (i + 1) (at + step) (set out at (get_or words i 0))
  collected_more i at step out c h l e s =
      record {
        within = omega arith;
        few = let few : at ≤ i = c.few in omega arith;
        kept =
            let few : at ≤ i = c.few in
            rw (add-one i, e) (kept_more (f (get_or words i 0)) i at out refl (omega arith) h c.kept);
      }

  pub collected_all : (i at : ℕ) (out : List ℕ) → Collected f words i at out → length words ≤ i → take at out ≡ keep f words
  collected_all i at out c h = c.kept ∙ ap (keep f) (take_all i words h)
