-- Why rows may be skipped: the score of no row from r up to the last is above a bound, and a bound below the greatest record before row r
-- is reached by none of them.
use Prim.Native.Nat.{ℕ, suc, ◌-◌, ◌≤◌}
use native.Mathlib.Omega.{arith}
use native.Mathlib.Nat.{le_refl}
use mathlib.Core.Bool.{Bool, true, false}
use mathlib.Core.Path.{◌≡◌}
use mathlib.Core.List.{List}
use Rattle.session_records.specs.Order.{Preorder, Monotone}
use Rattle.session_records.specs.Records.{highest_before, with_record}
use Rattle.session_records.proofs.Greater.{greater_than_lower, higher_is_greater}
use Rattle.session_records.proofs.Highest.{before_rises}
use Rattle.session_records.proofs.Recorded.{unrecorded}

module _ (at_most : ℕ → ℕ → Bool) (order : Preorder at_most) where
  -- m of a row falls and its index x rises along the column's rows; y is the index of the column's hit
  pub bound : {scoring : ℕ → ℕ → ℕ} → Monotone at_most scoring → (m x : ℕ → ℕ) (y r k last : ℕ)
      → ((i k : ℕ) → i ≤ k → k ≤ last → m k ≤ m i) → ((i k : ℕ) → i ≤ k → k ≤ last → x i ≤ x k) → r ≤ k → k ≤ last
      → at_most (scoring (m k) (suc y - x k)) (scoring (m r) (suc y - x last)) ≡ true
  bound {scoring} monotone m x y r k last falls rises a l =
      let e : x k ≤ x last = rises k last l (le_refl last) in
      order.trans (scoring (m k) (suc y - x k)) (scoring (m r) (suc y - x k)) (scoring (m r) (suc y - x last))
      (monotone.with_m (m k) (m r) (suc y - x k) (falls r k a l))
      (monotone.with_len (m r) (suc y - x last) (suc y - x k) (omega arith))

  pub unreached : (threshold : ℕ) (best : List ℕ) (r k s top : ℕ) → r ≤ k → at_most s top ≡ true
      → at_most (highest_before at_most threshold best r) top ≡ false
      → (with_record at_most threshold best k s ≡ best) × (at_most (highest_before at_most threshold best (suc k)) s ≡ false)
  unreached threshold best r k s top a low above = (unrecorded at_most order threshold best k s old, higher_is_greater at_most order before own s rises over)
    where
      before : ℕ
      before = highest_before at_most threshold best r

      own : ℕ
      own = highest_before at_most threshold best (suc k)

      rises : at_most before own ≡ true
      rises = before_rises at_most order threshold best r (suc k) (omega arith)

      over : at_most before s ≡ false
      over = greater_than_lower at_most order before s top low above

      old : at_most s own ≡ true
      old = order.trans s before own (order.total before s over) rises
