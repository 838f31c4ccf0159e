-- The pass over the text: what it has noted of the hits so far, and one entry more.
use Prim.Native.Nat.{ℕ, suc, ◌+◌, ◌≤◌, ◌<◌}
use native.Mathlib.Omega.{arith}
use native.Mathlib.Numerals.{add-one}
use mathlib.Core.Path.{◌≡◌, refl, sym, ap, ◌∙◌}
use mathlib.Core.Logic.{◌⊎◌, inl, inr}
use mathlib.Core.Bool.{Bool, true, false}
use mathlib.Core.List.{List, ◌∷◌}
use lib.Dec.{ltb}
use lib.ListN.{length, get_or, drop, set, length-set, length-drop}
use lib.Seq.{drop-cons, get_or-set_same, get_or-set_other}
use Rattle.base.specs.Lists.{bit, add_if}
use Rattle.base.specs.Counts.{occ}
use Rattle.sorting.specs.Sorting.{Sorted, LowerBound}
use Rattle.base.proofs.Lists.{eq_or_ne}
use Rattle.mappings.specs.Cells.{hits_from}
use Rattle.session_start.specs.Noting.{one_at}
use Rattle.session_start.proofs.Ring.{one_at_run}

-- ---- notes

-- what is known of the first h notes is known of one more
module _ (Q : ℕ → ℕ → Type 0) (notes : List ℕ) (h v : ℕ) (known : (k : ℕ) → k < h → k < length notes → Q k (get_or notes k 0)) where
  notes_same : (k : ℕ) → k < h → k < length (set notes h v) → Q k (get_or (set notes h v) k 0)
  notes_same k l m = rw (get_or-set_other notes h k v 0 (λ e. omega arith)) (known k l (rw (length-set notes h v) at m))

  notes_more : Q h v → (k : ℕ) → k < suc h → k < length (set notes h v) → Q k (get_or (set notes h v) k 0)
  notes_more q k l m = go (eq_or_ne k h)
    where
      go : (k ≡ h) ⊎ (k ≡ h → ⊥) → Q k (get_or (set notes h v) k 0)
      go (inl e) =
          let room : h < length notes = rw (length-set notes h v, e) at m in
          rw e (rw (get_or-set_same notes h v 0 room) q)
      go (inr n) = notes_same k (omega arith) m

-- ---- the first of what is left

record First (l : List ℕ) (h y : ℕ) (r : List ℕ) : Type 0 where
  within : h < length l
  first : get_or l h 0 ≡ y
  rest : drop (suc h) l ≡ r

drop_first : (l : List ℕ) (h y : ℕ) (r : List ℕ) → drop h l ≡ y ∷ r → First l h y r
drop_first l h y r e =
    let within : h < length l = omega (arith, length-drop h l, ap length e) in
    let both : get_or l h 0 ∷ drop (suc h) l ≡ y ∷ r = sym (drop-cons l h 0 within) ∙ e in
    record { within = within; first = ap (λ (l : List ℕ). get_or l 0 0) both; rest = ap (drop 1) both }

-- ---- the pass

module _ (text sorted : List ℕ) where
  abbrev all_hits : List ℕ
  all_hits = hits_from sorted 0 text

  -- i entries have been passed, h of them hits
  pub record Noting (index slots : List ℕ) (h i : ℕ) : Type 0 where
    pub left : drop h all_hits ≡ hits_from sorted i (drop i text)
    pub within : h ≤ length all_hits
    pub at_most : h ≤ i
    pub indices : (k : ℕ) → k < h → k < length index → get_or index k 0 ≡ get_or all_hits k 0
    pub lower : (k : ℕ) → k < h → k < length slots → LowerBound sorted (get_or text (get_or all_hits k 0) 0) (get_or slots k 0)

  -- one entry more: a word that stands at its slot is a hit
  pub noting_more : Sorted sorted → (index slots : List ℕ) (h i slot : ℕ) → Noting index slots h i → i < length text
      → LowerBound sorted (get_or text i 0) slot
      → Noting (set index h i) (set slots h slot) (h + one_at sorted slot (get_or text i 0)) (i + 1)
  noting_more in_order index slots h i slot now l bound =
      rw (add-one i, ap (λ (n : ℕ). one_at sorted n x) (let e : slot ≡ slot + 0 = omega arith in e), one_at_run sorted in_order x slot 0 bound)
      (go (ltb 0 (occ x sorted)) refl)
    where
      x : ℕ
      x = get_or text i 0

      next : drop h all_hits ≡ add_if (ltb 0 (occ x sorted)) i (hits_from sorted (suc i) (drop (suc i) text))
      next = now.left ∙ ap (hits_from sorted i) (drop-cons text i 0 l)

      go : (b : Bool) → ltb 0 (occ x sorted) ≡ b → Noting (set index h i) (set slots h slot) (h + bit b) (suc i)
      go true e =
          let f : First all_hits h i (hits_from sorted (suc i) (drop (suc i) text)) =
          drop_first all_hits h i (hits_from sorted (suc i) (drop (suc i) text)) (rw e at next) in
          rw (add-one h) (record {
            left = f.rest;
            within = f.within;
            at_most = omega (arith, now.at_most);
            indices = notes_more (λ k n. n ≡ get_or all_hits k 0) index h i now.indices (sym f.first);
            lower = notes_more (λ k n. LowerBound sorted (get_or text (get_or all_hits k 0) 0) n) slots h slot now.lower (rw f.first bound);
          })
      go false e =
          let none : h + 0 ≡ h = omega arith in
          rw none (record {
            left = rw e at next;
            within = now.within;
            at_most = omega (arith, now.at_most);
            indices = notes_same (λ k n. n ≡ get_or all_hits k 0) index h i now.indices;
            lower = notes_same (λ k n. LowerBound sorted (get_or text (get_or all_hits k 0) 0) n) slots h slot now.lower;
          })
