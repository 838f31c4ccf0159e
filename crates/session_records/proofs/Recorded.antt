-- What a record changes: nothing before its row, its own row's greatest score is the record, and behind it the record joins in.
use Prim.Native.Nat.{ℕ, suc, ◌+◌, ◌-◌, ◌*◌, ◌≤◌, ◌<◌}
use native.Mathlib.Nat.{le_refl, le-suc}
use native.Mathlib.Omega.{arith}
use mathlib.Core.Bool.{Bool, true, false}
use mathlib.Core.Logic.{◌⊎◌, inl, inr}
use mathlib.Core.Path.{◌≡◌, refl, sym, ap, ◌∙◌, subst}
use mathlib.Core.List.{List, [], ◌∷◌}
use lib.ListN.{length, set, take, drop, length-drop, length-set}
use lib.Seq.{take-set-le, take-suc-set, drop-set-lt, drop-set-add}
use Rattle.session_words.specs.Layout.{block_rows}
use Rattle.session_records.specs.Order.{Preorder}
use Rattle.session_records.specs.Records.{greater, highest, highest_before, with_record, block_top}
use Rattle.session_records.proofs.Greater.{greater_than_lower, greater_first, greater_second, second_at_most, greater_assoc}
use Rattle.session_records.proofs.Highest.{highest_append, before_add, before_rises, block_before}

module _ (at_most : ℕ → ℕ → Bool) (order : Preorder at_most) where
  pub record_before : (threshold : ℕ) (best : List ℕ) (i s r : ℕ) → r ≤ i
      → highest_before at_most threshold (set best i s) r ≡ highest_before at_most threshold best r
  unfolding highest_before
  record_before threshold best i s r l = ap (highest at_most threshold) (take-set-le r best i s l)

  pub record_own : (threshold : ℕ) (best : List ℕ) (i s : ℕ) → i < length best → at_most s (highest_before at_most threshold best (suc i)) ≡ false
      → highest_before at_most threshold (set best i s) (suc i) ≡ s
  unfolding highest_before
  record_own threshold best i s l new = with_own ∙ greater_second at_most order (before i) s greatest
    where
      before : ℕ → ℕ
      before r = highest_before at_most threshold best r

      greatest : at_most s (before i) ≡ false
      greatest = greater_than_lower at_most order s (before i) (before (suc i)) (before_rises at_most order threshold best i (suc i) (le-suc i)) new

      with_own : highest_before at_most threshold (set best i s) (suc i) ≡ greater at_most (highest_before at_most threshold best i) s
      with_own = ap (highest at_most threshold) (take-suc-set best i s l) ∙ highest_append at_most order threshold (take i best) (s ∷ [])

  -- the rows behind it
  pub record_behind : (threshold : ℕ) (best : List ℕ) (i s r : ℕ) → i < length best → at_most s (highest_before at_most threshold best (suc i)) ≡ false
      → i < r → highest_before at_most threshold (set best i s) r ≡ greater at_most s (highest_before at_most threshold best r)
  record_behind threshold best i s r l new b =
      subst (λ (n : ℕ). highest_before at_most threshold (set best i s) n ≡ greater at_most s (highest_before at_most threshold best n))
      e (left ∙ sym right)
    where
      more : ℕ
      more = r - suc i

      e : suc i + more ≡ r
      e = omega arith

      before : ℕ
      before = highest_before at_most threshold best (suc i)

      rest : ℕ
      rest = highest_before at_most 0 (drop (suc i) best) more

      left : highest_before at_most threshold (set best i s) (suc i + more) ≡ greater at_most s rest
      left =
          before_add at_most order threshold (set best i s) (suc i) more
          ∙ rw (record_own threshold best i s l new, drop-set-lt (suc i) best i s (le_refl (suc i)))

      right : greater at_most s (highest_before at_most threshold best (suc i + more)) ≡ greater at_most s rest
      right =
          ap (greater at_most s) (before_add at_most order threshold best (suc i) more)
          ∙ sym (greater_assoc at_most order s before rest)
          ∙ ap (λ (a : ℕ). greater at_most a rest) (greater_first at_most order s before (order.total s before new))

  -- a block from row `at` on: its rows as a list of their own
  rows_from : (best : List ℕ) (at i s : ℕ) → at ≤ i → drop at (set best i s) ≡ set (drop at best) (i - at) s
  rows_from best at i s a =
      let e : i ≡ at + (i - at) = omega arith in
      ap (λ (n : ℕ). drop at (set best n s)) e ∙ drop-set-add at best (i - at) s

  pub record_top : (threshold : ℕ) (best : List ℕ) (i s : ℕ) → i < length best → at_most s (highest_before at_most threshold best (suc i)) ≡ false
      → (b : ℕ) → b * block_rows ≤ i → i < b * block_rows + block_rows → block_top at_most (set best i s) b ≡ greater at_most s (block_top at_most best b)
  record_top threshold best i s l new b from to =
      block_before at_most order (set best i s) b
      ∙ ap (λ (rows : List ℕ). highest_before at_most 0 rows block_rows) (rows_from best at i s from)
      ∙ record_behind 0 (drop at best) own s block_rows inside greatest (omega arith)
      ∙ ap (greater at_most s) (sym (block_before at_most order best b))
    where
      at : ℕ
      at = b * block_rows

      own : ℕ
      own = i - at

      inside : own < length (drop at best)
      inside = subst (λ (n : ℕ). own < n) (sym (length-drop at best)) (omega arith)

      before : ℕ
      before = highest_before at_most 0 (drop at best) (suc own)

      e : suc i ≡ at + suc own
      e = omega arith

      greatest : at_most s before ≡ false
      greatest =
          greater_than_lower at_most order s before (highest_before at_most threshold best (suc i))
          (ap (λ (n : ℕ). at_most before (highest_before at_most threshold best n)) e
          ∙ ap (at_most before) (before_add at_most order threshold best at (suc own))
          ∙ second_at_most at_most order (highest_before at_most threshold best at) before)
          new

  pub other_top : (best : List ℕ) (i s b : ℕ) → (i < b * block_rows) ⊎ (b * block_rows + block_rows ≤ i)
      → block_top at_most (set best i s) b ≡ block_top at_most best b
  unfolding block_top
  other_top best i s b (inl before) = ap (λ (rows : List ℕ). highest at_most 0 (take block_rows rows)) (drop-set-lt (b * block_rows) best i s before)
  other_top best i s b (inr behind) =
      let at = b * block_rows in
      ap (λ (rows : List ℕ). highest at_most 0 (take block_rows rows)) (rows_from best at i s (omega arith))
      ∙ ap (highest at_most 0) (take-set-le block_rows (drop at best) (i - at) s (omega arith))

  -- ---- a cell that is a record, and one that is not

  pub recorded : (threshold : ℕ) (best : List ℕ) (i s : ℕ) → at_most s (highest_before at_most threshold best (suc i)) ≡ false
      → with_record at_most threshold best i s ≡ set best i s
  unfolding with_record
  recorded threshold best i s new = rw new

  pub unrecorded : (threshold : ℕ) (best : List ℕ) (i s : ℕ) → at_most s (highest_before at_most threshold best (suc i)) ≡ true
      → with_record at_most threshold best i s ≡ best
  unfolding with_record
  unrecorded threshold best i s old = rw old

  pub length_with_record : (threshold : ℕ) (best : List ℕ) (i s : ℕ) → length (with_record at_most threshold best i s) ≡ length best
  length_with_record threshold best i s = go (at_most s (highest_before at_most threshold best (suc i))) refl
    where
      go : (c : Bool) → at_most s (highest_before at_most threshold best (suc i)) ≡ c → length (with_record at_most threshold best i s) ≡ length best
      go true e = ap length (unrecorded threshold best i s e)
      go false e = ap length (recorded threshold best i s e) ∙ length-set best i s
