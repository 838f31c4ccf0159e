-- A word put at the end of a list that does not end in it: the words of the list, their order, and the store.
use Prim.Native.Nat.{ℕ, ◌+◌, ◌-◌, ◌≤◌, ◌<◌}
use native.Mathlib.Nat.{le_refl}
use native.Mathlib.Omega.{arith}
use native.Mathlib.Numerals.{add-one}
use mathlib.Core.Path.{◌≡◌, refl, sym, ◌∙◌}
use mathlib.Core.Logic.{◌⊎◌, inl, inr, ◌≢◌}
use mathlib.Core.Bool.{Bool, true, false, cond, ◌&&◌}
use mathlib.Core.List.{List, [], ◌∷◌, ◌++◌}
use lib.Dec.{eqb, ltb}
use lib.ListN.{length, get_or, set, take, length-append, get_or-append}
use lib.Seq.{get_or-take, length-take-le, get_or-append_seam, take-suc-set}
use borrow.Author.Tests.{eqb-true, ltb-true, ne_eqb, eq-eqb, lt-ltb, le-ltb}
use Rattle.base.specs.Lists.{bit}
use Rattle.base.specs.Counts.{occ}
use Rattle.base.proofs.Lists.{eq_or_ne}
use Rattle.base.proofs.Counts.{bit_same, bit_other, occ_append}
use Rattle.sorting.specs.Sorting.{Sorted}
use Rattle.marking.specs.Frequent.{ending_in}
use Rattle.marking.proofs.Present.{occ_at}

pub ending_occurs : (w : ℕ) (l : List ℕ) → 0 < occ w (ending_in w l)
unfolding ending_in
ending_occurs w l = go (ltb 0 (length l)) refl (eqb (get_or l (length l - 1) 0) w) refl
  where
    put : 0 < occ w (l ++ w ∷ [])
    put =
        let one : bit (eqb w w) ≡ 1 = bit_same w in
        let e : occ w (l ++ w ∷ []) ≡ occ w l + (bit (eqb w w) + 0) = occ_append w l (w ∷ []) in
        omega arith

    go : (b : Bool) → ltb 0 (length l) ≡ b → (c : Bool) → eqb (get_or l (length l - 1) 0) w ≡ c → 0 < occ w (cond (b && c) l (l ++ w ∷ []))
    go true e true f =
        let h : 0 < length l = ltb-true 0 (length l) e in
        rw (eqb-true (get_or l (length l - 1) 0) w f) at (occ_at l (length l - 1) (omega arith))
    go true e false f = put
    go false e c f = put

pub ending_other : (w : ℕ) (l : List ℕ) (x : ℕ) → x ≢ w → occ x (ending_in w l) ≡ occ x l
unfolding ending_in
ending_other w l x n = go (ltb 0 (length l) && eqb (get_or l (length l - 1) 0) w)
  where
    go : (b : Bool) → occ x (cond b l (l ++ w ∷ [])) ≡ occ x l
    go true = refl
    go false =
        let none : bit (eqb x w) ≡ 0 = bit_other x w n in
        let e : occ x (l ++ w ∷ []) ≡ occ x l + (bit (eqb x w) + 0) = occ_append x l (w ∷ []) in
        omega arith

sorted_snoc : (l : List ℕ) (w : ℕ) → Sorted l → ((k : ℕ) → k < length l → get_or l k 0 ≤ w) → Sorted (l ++ w ∷ [])
sorted_snoc l w s top i j a b = go (eq_or_ne j (length l)) (eq_or_ne i (length l))
  where
    last : j < length l + 1
    last = rw (length-append l (w ∷ [])) at b

    go : (j ≡ length l) ⊎ (j ≢ length l) → (i ≡ length l) ⊎ (i ≢ length l) → get_or (l ++ w ∷ []) i 0 ≤ get_or (l ++ w ∷ []) j 0
    go (inl e) (inl f) = rw (e, f) (le_refl (get_or (l ++ w ∷ []) (length l) 0))
    go (inl e) (inr n) =
        let h : i < length l = omega arith in
        rw (e, get_or-append_seam l w [] 0, get_or-append l (w ∷ []) 0 i h) (top i h)
    go (inr n) q =
        let h : j < length l = omega (arith, last) in
        rw (get_or-append l (w ∷ []) 0 i (omega arith), get_or-append l (w ∷ []) 0 j h) (s i j a h)

pub ending_sorted : (w : ℕ) (l : List ℕ) → Sorted l → ((k : ℕ) → k < length l → get_or l k 0 ≤ w) → Sorted (ending_in w l)
unfolding ending_in
ending_sorted w l s top = go (ltb 0 (length l) && eqb (get_or l (length l - 1) 0) w)
  where
    go : (b : Bool) → Sorted (cond b l (l ++ w ∷ []))
    go true = s
    go false = sorted_snoc l w s top

module _ (word n : ℕ) (list : List ℕ) (room : n < length list) where
  first_long : length (take n list) ≡ n
  first_long = length-take-le n list (omega arith)

  ending_if : (b : Bool) → (ltb 0 n && eqb (get_or (take n list) (n - 1) 0) word) ≡ b
      → ending_in word (take n list) ≡ cond b (take n list) (take n list ++ word ∷ [])
  unfolding ending_in
  ending_if b e = rw (first_long, e)

  -- the first n of the list end in the word
  pub ends_already : 0 < n → get_or list (n - 1) 0 ≡ word → take n list ≡ ending_in word (take n list)
  ends_already h e =
      let last : get_or (take n list) (n - 1) 0 ≡ word = get_or-take n list (n - 1) 0 (omega arith) ∙ e in
      sym (ending_if true (rw (lt-ltb 0 n h, last) (eq-eqb word word refl)))

  -- they do not, and the word is put behind them
  pub ends_now : (n ≤ 0) ⊎ (get_or list (n - 1) 0 ≢ word) → take (n + 1) (set list n word) ≡ ending_in word (take n list)
  ends_now other = rw (add-one n) (take-suc-set list n word room ∙ sym (ending_if false (go other)))
    where
      go : (n ≤ 0) ⊎ (get_or list (n - 1) 0 ≢ word) → (ltb 0 n && eqb (get_or (take n list) (n - 1) 0) word) ≡ false
      go (inl h) = rw (le-ltb 0 n h)
      go (inr p) = nonempty (ltb 0 n) refl
        where
          nonempty : (b : Bool) → ltb 0 n ≡ b → (b && eqb (get_or (take n list) (n - 1) 0) word) ≡ false
          nonempty false e = refl
          nonempty true e = ne_eqb (get_or (take n list) (n - 1) 0) word (λ q. p (sym (get_or-take n list (n - 1) 0 (omega (arith, ltb-true 0 n e))) ∙ q))
