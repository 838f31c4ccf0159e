-- Laws of the greatest of several score words, and of the greatest record before a row.
use Prim.Native.Nat.{ℕ, suc, ◌+◌, ◌-◌, ◌*◌, ◌≤◌, ◌<◌}
use native.Mathlib.Omega.{arith}
use mathlib.Core.Bool.{Bool, true}
use mathlib.Core.Path.{◌≡◌, refl, sym, ap, ◌∙◌}
use mathlib.Core.List.{List, [], ◌∷◌, ◌++◌}
use lib.ListN.{length, get_or, take, drop}
use lib.Seq.{take-suc, take-add}
use Rattle.session_words.specs.Layout.{block_rows}
use Rattle.session_records.specs.Order.{Preorder}
use Rattle.session_records.specs.Records.{greater, highest, highest_before, block_top}
use Rattle.session_records.proofs.Greater.{same, first_at_most, greater_assoc, greater_none}

module _ (at_most : ℕ → ℕ → Bool) (order : Preorder at_most) where
  pub highest_append : (top : ℕ) (xs ys : List ℕ) → highest at_most top (xs ++ ys) ≡ highest at_most (highest at_most top xs) ys
  highest_append top [] ys = refl
  highest_append top (x ∷ xs) ys = highest_append (greater at_most top x) xs ys

  pub highest_joins : (top : ℕ) (xs : List ℕ) → highest at_most top xs ≡ greater at_most top (highest at_most 0 xs)
  highest_joins top [] = sym (greater_none at_most order top)
  highest_joins top (x ∷ xs) =
      let own = greater at_most 0 x in
      let rest = highest at_most 0 xs in
      let joined : greater at_most top own ≡ greater at_most top x =
      sym (greater_assoc at_most order top 0 x) ∙ ap (λ (a : ℕ). greater at_most a x) (greater_none at_most order top) in
      highest_joins (greater at_most top x) xs
      ∙ ap (λ (a : ℕ). greater at_most a rest) (sym joined)
      ∙ greater_assoc at_most order top own rest
      ∙ ap (greater at_most top) (sym (highest_joins own xs))

  pub top_at_most : (top : ℕ) (xs : List ℕ) → at_most top (highest at_most top xs) ≡ true
  top_at_most top [] = same at_most order top
  top_at_most top (x ∷ xs) =
      order.trans top (greater at_most top x) (highest at_most (greater at_most top x) xs)
      (first_at_most at_most order top x) (top_at_most (greater at_most top x) xs)

  -- ---- before a row

  pub before_none : (threshold : ℕ) (best : List ℕ) → highest_before at_most threshold best 0 ≡ threshold
  unfolding highest_before
  before_none threshold best = refl

  -- the rows before row at + n: those before row at, and n more
  pub before_add : (threshold : ℕ) (best : List ℕ) (at n : ℕ)
      → highest_before at_most threshold best (at + n)
      ≡ greater at_most (highest_before at_most threshold best at) (highest_before at_most 0 (drop at best) n)
  unfolding highest_before
  before_add threshold best at n =
      ap (highest at_most threshold) (take-add at n best)
      ∙ highest_append threshold (take at best) (take n (drop at best))
      ∙ highest_joins (highest at_most threshold (take at best)) (take n (drop at best))

  pub before_suc : (threshold : ℕ) (best : List ℕ) (i : ℕ) → i < length best
      → highest_before at_most threshold best (suc i) ≡ greater at_most (highest_before at_most threshold best i) (get_or best i 0)
  unfolding highest_before
  before_suc threshold best i l =
      ap (highest at_most threshold) (take-suc best i 0 l) ∙ highest_append threshold (take i best) (get_or best i 0 ∷ [])

  pub before_rises : (threshold : ℕ) (best : List ℕ) (i k : ℕ) → i ≤ k
      → at_most (highest_before at_most threshold best i) (highest_before at_most threshold best k) ≡ true
  before_rises threshold best i k l =
      let e : k ≡ i + (k - i) = omega arith in
      ap (λ (n : ℕ). at_most (highest_before at_most threshold best i) (highest_before at_most threshold best n)) e
      ∙ ap (at_most (highest_before at_most threshold best i)) (before_add threshold best i (k - i))
      ∙ first_at_most at_most order (highest_before at_most threshold best i) (highest_before at_most 0 (drop i best) (k - i))

  pub threshold_at_most : (threshold : ℕ) (best : List ℕ) (i : ℕ) → at_most threshold (highest_before at_most threshold best i) ≡ true
  unfolding highest_before
  threshold_at_most threshold best i = top_at_most threshold (take i best)

  -- a block's greatest record is the greatest of its first rows, all of them
  pub block_before : (best : List ℕ) (b : ℕ) → block_top at_most best b ≡ highest_before at_most 0 (drop (b * block_rows) best) block_rows
  unfolding block_top highest_before
  block_before best b = refl
