-- The greatest record of a block stands for all its rows, whichever of them were counted already.
use Prim.Native.Nat.{ℕ, zero, suc, ◌+◌, ◌-◌, ◌*◌, ◌≤◌}
use native.Mathlib.Omega.{arith}
use mathlib.Core.Bool.{Bool}
use mathlib.Core.Path.{◌≡◌, refl, sym, ap, ◌∙◌}
use mathlib.Core.List.{List}
use lib.ListN.{drop, replicate}
use lib.Seq.{take-nil}
use Rattle.session_words.specs.Layout.{block_rows}
use Rattle.session_records.specs.Order.{Preorder}
use Rattle.session_records.specs.Records.{greater, highest, highest_before, block_top}
use Rattle.session_records.proofs.Greater.{greater_assoc, greater_same, greater_none}
use Rattle.session_records.proofs.Highest.{before_add, block_before}

module _ (at_most : ℕ → ℕ → Bool) (order : Preorder at_most) where
  pub block_highest : (threshold : ℕ) (best : List ℕ) (b r : ℕ) → b * block_rows ≤ r → r ≤ b * block_rows + block_rows
      → highest_before at_most threshold best (b * block_rows + block_rows)
      ≡ greater at_most (highest_before at_most threshold best r) (block_top at_most best b)
  block_highest threshold best b r from to =
      before_add at_most order threshold best at block_rows
      ∙ ap (greater at_most before) block_is
      ∙ twice before first rest
      ∙ ap (λ (a : ℕ). greater at_most a (greater at_most first rest)) (sym before_is)
      ∙ ap (greater at_most (highest_before at_most threshold best r)) (sym (block_before at_most order best b ∙ block_is))
    where
      at : ℕ
      at = b * block_rows

      done : ℕ
      done = r - at

      left : ℕ
      left = at + block_rows - r

      before : ℕ
      before = highest_before at_most threshold best at

      first : ℕ
      first = highest_before at_most 0 (drop at best) done

      rest : ℕ
      rest = highest_before at_most 0 (drop done (drop at best)) left

      block_is : highest_before at_most 0 (drop at best) block_rows ≡ greater at_most first rest
      block_is =
          let e : block_rows ≡ done + left = omega arith in
          ap (highest_before at_most 0 (drop at best)) e ∙ before_add at_most order 0 (drop at best) done left

      before_is : highest_before at_most threshold best r ≡ greater at_most before first
      before_is =
          let e : r ≡ at + done = omega arith in
          ap (highest_before at_most threshold best) e ∙ before_add at_most order threshold best at done

      twice : (a f c : ℕ) → greater at_most a (greater at_most f c) ≡ greater at_most (greater at_most a f) (greater at_most f c)
      twice a f c =
          ap (λ (x : ℕ). greater at_most a (greater at_most x c)) (sym (greater_same at_most order f))
          ∙ ap (greater at_most a) (greater_assoc at_most order f f c)
          ∙ sym (greater_assoc at_most order a f (greater at_most f c))

  -- rows without a record
  pub before_empty : (threshold at n h : ℕ) → highest_before at_most threshold (drop at (replicate h 0)) n ≡ threshold
  unfolding highest_before
  before_empty threshold zero zero h = refl
  before_empty threshold zero (suc n) zero = refl
  before_empty threshold zero (suc n) (suc h) = rw (greater_none at_most order threshold) (before_empty threshold zero n h)
  before_empty threshold (suc at) n zero = ap (highest at_most threshold) (take-nil n)
  before_empty threshold (suc at) n (suc h) = before_empty threshold at n h

  pub no_top : (h b : ℕ) → block_top at_most (replicate h 0) b ≡ 0
  no_top h b = block_before at_most order (replicate h 0) b ∙ before_empty 0 (b * block_rows) block_rows h
