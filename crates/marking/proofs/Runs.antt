-- The list of the words that occur more than `limit` times among words in order: such a word stands `limit` places before itself.
use Prim.Native.Nat.{ℕ, suc, ◌+◌, ◌-◌, ◌≤◌, ◌<◌, zero-le}
use native.Mathlib.Nat.{le_refl, lt_of_not-le}
use native.Mathlib.Omega.{arith}
use native.Mathlib.Numerals.{add-one}
use mathlib.Core.Path.{◌≡◌, sym, ap, ◌∙◌}
use mathlib.Core.Logic.{◌⊎◌, inl, inr, ◌≢◌}
use mathlib.Core.List.{List}
use lib.Dec.{eqb, leb}
use lib.ListN.{length, get_or, take, length-take}
use lib.Seq.{take_all, get_or-take, length-take-le}
use borrow.Author.Tests.{le-leb, lt-leb}
use Rattle.base.specs.Lists.{bit}
use Rattle.base.specs.Counts.{occ}
use Rattle.base.proofs.Lists.{eq_or_ne}
use Rattle.base.proofs.Counts.{bit_other, occ_le_length, occ_take_suc}
use Rattle.sorting.specs.Sorting.{Sorted, sorted_words}
use Rattle.sorting.specs.Searching.{searched}
use Rattle.sorting.proofs.Sorting.{Run, lower_bound_run, sorted_words_copy}
use Rattle.sorting.proofs.Searching.{searched_bound}
use Rattle.marking.specs.Marks.{mark_of}
use Rattle.marking.specs.Slots.{suspects_of}
use Rattle.marking.specs.Frequent.{Frequent, ending_in}
use Rattle.marking.proofs.Filter.{suspects_mark}
use Rattle.marking.proofs.Present.{occ_at, found, mark_present, mark_too_often}
use Rattle.marking.proofs.Ending.{ending_occurs, ending_other, ending_sorted}

-- ---- the runs of words in order

sorted_take : (n : ℕ) (l : List ℕ) → Sorted l → n ≤ length l → Sorted (take n l)
sorted_take n l s h i j a b =
    let inside : j < n = rw (length-take-le n l h) at b in
    rw (get_or-take n l i 0 (omega arith), get_or-take n l j 0 inside) (s i j a (omega arith))

module _ (sorted : List ℕ) (in_order : Sorted sorted) (i : ℕ) (inside : i < length sorted) where
  abbrev word : ℕ
  word = get_or sorted i 0

  -- the words up to index i
  abbrev upto : List ℕ
  upto = take (suc i) sorted

  long : length upto ≡ suc i
  long = length-take-le (suc i) sorted inside

  at_upto : (k : ℕ) → k ≤ i → get_or upto k 0 ≡ get_or sorted k 0
  at_upto k h = get_or-take (suc i) sorted k 0 (omega arith)

  -- where the run of the word at index i begins; it ends behind the index
  abbrev start : ℕ
  start = searched upto word

  run : Run word upto start (start + occ word upto)
  run =
      let s = sorted_take (suc i) sorted in_order inside in
      lower_bound_run upto s word start (searched_bound upto word s)

  run_ends : start + occ word upto ≡ suc i
  run_ends =
      let fits : start + occ word upto ≤ length upto = run.within in
      let e : length upto ≡ suc i = long in
      let h : i < start + occ word upto = lt_of_not-le (λ l. run.behind i l (omega arith) (at_upto i (le_refl i))) in
      omega arith

  back_same : (limit : ℕ) → limit ≤ i → get_or sorted (i - limit) 0 ≡ word → limit < occ word upto
  back_same limit h e =
      let from : start < suc (i - limit) = lt_of_not-le (λ l. run.before (i - limit) l (at_upto (i - limit) (omega arith) ∙ e)) in
      omega (arith, run_ends)

  back_other : (limit : ℕ) → limit ≤ i → get_or sorted (i - limit) 0 ≢ word → occ word upto ≤ limit
  back_other limit h n =
      let e = run_ends in
      let from : i - limit < start =
      lt_of_not-le (λ l. n (sym (at_upto (i - limit) (omega arith)) ∙ run.inside (i - limit) l (omega arith)))
      in
      omega arith

  -- another word occurs as often as before index i
  others : (x : ℕ) → x ≢ word → occ x upto ≡ occ x (take i sorted)
  others x n =
      let none : bit (eqb x word) ≡ 0 = bit_other x word n in
      let e : occ x upto ≡ occ x (take i sorted) + bit (eqb x word) = occ_take_suc x i sorted inside in
      omega arith

  -- a word that occurs before index i is not above the one there
  below_word : (x : ℕ) → 0 < occ x (take i sorted) → x ≤ word
  below_word x h =
      let t = take i sorted in
      let e : length t ≡ i = length-take-le i sorted (omega arith) in
      let at = found t (sorted_take i sorted in_order (omega arith)) x h in
      let k : searched t x < i = rw e at at.0 in
      rw (← at.1, get_or-take i sorted (searched t x) 0 k) (in_order (searched t x) i (omega arith) inside)

-- ---- what the loop keeps

-- the first n of the list are those that occur more than `limit` times before index i
pub record Listed (sorted : List ℕ) (limit i n : ℕ) (list : List ℕ) : Type 0 where
  pub few : n + limit ≤ i
  pub within : n ≤ length sorted
  pub in_order : Sorted (take n list)
  pub same_mark : (x : ℕ) → mark_of (take n list) 0 x ≡ mark_of (take i sorted) limit x

pub listed_none : (sorted : List ℕ) (limit : ℕ) (list : List ℕ) → Listed sorted limit limit 0 list
listed_none sorted limit list =
    record {
      few = omega arith;
      within = zero-le;
      in_order = λ i j a b. absurd (omega arith);
      same_mark =
          λ x.
          let most : occ x (take limit sorted) ≤ length (take limit sorted) = occ_le_length x (take limit sorted) in
          sym (ap bit (le-leb (occ x (take limit sorted)) limit (omega (arith, length-take limit sorted))));
    }

module _ (sorted : List ℕ) (rises : Sorted sorted) (limit i n : ℕ) (list : List ℕ) (l : Listed sorted limit i n list) (inside : i < length sorted) where
  back : limit ≤ i
  back = let h : n + limit ≤ i = l.few in omega arith

  -- the words of the list do not exceed the one at index i
  top : (k : ℕ) → k < length (take n list) → get_or (take n list) k 0 ≤ get_or sorted i 0
  top k h =
      let x = get_or (take n list) k 0 in
      let zero : 0 ≡ mark_of (take i sorted) limit x = mark_present (take n list) x (occ_at (take n list) k h) ∙ l.same_mark x in
      let many : limit < occ x (take i sorted) = mark_too_often (take i sorted) limit x zero
      in
      below_word sorted rises i inside x (omega arith)

  -- the word at index i occurs too often by then
  pub listed_put : get_or sorted (i - limit) 0 ≡ get_or sorted i 0 → (r : ℕ) (next : List ℕ) → r ≤ n + 1
      → take r next ≡ ending_in (get_or sorted i 0) (take n list)
      → Listed sorted limit (i + 1) r next
  listed_put same r next few e =
      record {
        few = omega arith;
        within = let h : n + limit ≤ i = l.few in omega arith;
        in_order = rw e (ending_sorted (get_or sorted i 0) (take n list) l.in_order top);
        same_mark = λ x. rw (add-one i, e) (go x (eq_or_ne x (get_or sorted i 0)));
      }
    where
      go : (x : ℕ) → (x ≡ get_or sorted i 0) ⊎ (x ≢ get_or sorted i 0)
          → mark_of (ending_in (get_or sorted i 0) (take n list)) 0 x ≡ mark_of (take (suc i) sorted) limit x
      go x (inl p) =
          let w = get_or sorted i 0 in
          rw p
          (sym (mark_present (ending_in w (take n list)) w (ending_occurs w (take n list)))
          ∙ sym (ap bit (lt-leb (occ w (take (suc i) sorted)) limit (back_same sorted rises i inside limit back same))))
      go x (inr p) =
          ap (λ (k : ℕ). bit (leb k 0)) (ending_other (get_or sorted i 0) (take n list) x p)
          ∙ l.same_mark x
          ∙ ap (λ (k : ℕ). bit (leb k limit)) (sym (others sorted rises i inside x p))

  -- it does not, and is not of the list
  pub listed_pass : get_or sorted (i - limit) 0 ≢ get_or sorted i 0 → Listed sorted limit (i + 1) n list
  listed_pass other =
      record {
        few = let h : n + limit ≤ i = l.few in omega arith;
        within = l.within;
        in_order = l.in_order;
        same_mark = λ x. l.same_mark x ∙ rw (add-one i) (go x (eq_or_ne x (get_or sorted i 0)));
      }
    where
      go : (x : ℕ) → (x ≡ get_or sorted i 0) ⊎ (x ≢ get_or sorted i 0) → mark_of (take i sorted) limit x ≡ mark_of (take (suc i) sorted) limit x
      go x (inl p) =
          let w = get_or sorted i 0 in
          let most : occ w (take (suc i) sorted) ≤ limit = back_other sorted rises i inside limit back other in
          let e : occ w (take (suc i) sorted) ≡ occ w (take i sorted) + bit (eqb w w) = occ_take_suc w i sorted inside in
          rw p (ap bit (le-leb (occ w (take i sorted)) limit (omega arith) ∙ sym (le-leb (occ w (take (suc i) sorted)) limit most)))
      go x (inr p) = ap (λ (k : ℕ). bit (leb k limit)) (sym (others sorted rises i inside x p))

pub listed_all : (sorted : List ℕ) (limit i n : ℕ) (list : List ℕ) → Listed sorted limit i n list → length sorted ≤ i → Frequent sorted limit (take n list)
listed_all sorted limit i n list l h =
    record { in_order = l.in_order; same_mark = λ x. l.same_mark x ∙ ap (λ (k : List ℕ). mark_of k limit x) (take_all i sorted h) }

-- ---- words in another order, or fewer of them, with the same list

pub copy_sorted : (words now : List ℕ) → now ≡ sorted_words words → Sorted now
copy_sorted words now e = rw e (sorted_words_copy words).in_order

pub copy_frequent : (words now : List ℕ) (limit : ℕ) (list : List ℕ) → now ≡ sorted_words words → Frequent now limit list
    → Frequent words limit list
copy_frequent words now limit list e f =
    record {
      in_order = f.in_order;
      same_mark = λ x. f.same_mark x ∙ ap (λ (n : ℕ). bit (leb n limit)) (ap (occ x) e ∙ (sorted_words_copy words).same_counts x);
    }

pub suspects_frequent : (words now : List ℕ) (limit : ℕ) (list : List ℕ) → now ≡ suspects_of words limit → Frequent now limit list
    → Frequent words limit list
suspects_frequent words now limit list e f =
    record { in_order = f.in_order; same_mark = λ x. f.same_mark x ∙ ap (λ (l : List ℕ). mark_of l limit x) e ∙ suspects_mark words limit x }
