-- What the column in hand knows of the cells passed, along the cells; and that a cell is final exactly where no record before it is above it.
use Prim.Native.Nat.{ℕ, suc, ◌≤◌, ◌<◌}
use native.Mathlib.Nat.{le_refl, le_of_suc-le-suc, eq-or-lt_of_le}
use native.Mathlib.Omega.{arith}
use mathlib.Core.Bool.{Bool, true, false}
use mathlib.Core.Logic.{◌⊎◌, inl, inr}
use mathlib.Core.Path.{◌≡◌, refl, sym, ap, ◌∙◌}
use mathlib.Core.List.{List}
use lib.Dec.{leb}
use borrow.Author.Tests.{leb-true, leb-false}
use lib.ListN.{length, replicate}
use Rattle.session_records.specs.Order.{Preorder}
use Rattle.session_records.specs.Records.{highest_before, with_record}
use Rattle.session_records.proofs.Greater.{same, first_at_most, second_at_most, greater_least}
use Rattle.session_records.proofs.Highest.{before_rises, threshold_at_most}
use Rattle.session_records.proofs.Recorded.{record_before, record_behind, recorded, unrecorded}
use Rattle.session_records.proofs.Blocks.{before_empty}

module _ (at_most : ℕ → ℕ → Bool) (order : Preorder at_most) (threshold h : ℕ) (score : ℕ → ℕ → ℕ) where
  -- cell (r, c) is passed where cell (i, j) is next: columns fall, rows rise
  abbrev pub Passed : ℕ → ℕ → ℕ → ℕ → Type 0
  Passed i j r c = (c < h) × ((j < c) ⊎ ((c ≡ j) × (r < i)))

  -- what the column in hand knows where cell (i, j) is next: its greatest record up to a row is the least score that is at least
  -- the threshold and each score passed in the rows up to this one
  pub record Knows (best : List ℕ) (i j : ℕ) : Type 0 where
    pub bounds : (r r' c : ℕ) → r ≤ j → r' ≤ r → Passed i j r' c
        → at_most (score r' c) (highest_before at_most threshold best (suc r)) ≡ true
    pub least : (r B : ℕ) → r ≤ j → at_most threshold B ≡ true
        → ((r' c : ℕ) → r' ≤ r → Passed i j r' c → at_most (score r' c) B ≡ true)
        → at_most (highest_before at_most threshold best (suc r)) B ≡ true

  -- where nothing is passed
  pub knows_none : (j : ℕ) → suc j ≡ h → Knows (replicate h 0) 0 j
  knows_none j e = record { bounds = λ r r' c x y p. none r' c p; least = λ r B x t each. nothing r B t }
    where
      none : {X : Type 0} (r c : ℕ) → Passed 0 j r c → X
      none r c (l, inl a) = absurd (omega arith)
      none r c (l, inr (f, a)) = absurd (omega arith)

      nothing : (r B : ℕ) → at_most threshold B ≡ true → at_most (highest_before at_most threshold (replicate h 0) (suc r)) B ≡ true
      nothing r B t = ap (λ (a : ℕ). at_most a B) (before_empty at_most order threshold 0 (suc r) h) ∙ t

  -- ---- one more cell

  passed_before_lem : (i j r c : ℕ) → Passed i j r c → Passed (suc i) j r c
  passed_before_lem i j r c (l, inl a) = (l, inl a)
  passed_before_lem i j r c (l, inr (e, a)) = (l, inr (e, omega arith))

  passed_now : (i j r c : ℕ) → Passed (suc i) j r c → Passed i j r c ⊎ ((r ≡ i) × (c ≡ j))
  passed_now i j r c (l, inl a) = inl (l, inl a)
  passed_now i j r c (l, inr (e, a)) = go (eq-or-lt_of_le (le_of_suc-le-suc a))
    where
      go : (r ≡ i) ⊎ (r < i) → Passed i j r c ⊎ ((r ≡ i) × (c ≡ j))
      go (inl f) = inr (f, e)
      go (inr b) = inl (l, inr (e, b))

  -- two scores joined: at least both, and the least such score
  record Joins (old own now : ℕ) : Type 0 where
    old_at_most : at_most old now ≡ true
    own_at_most : at_most own now ≡ true
    now_least : (B : ℕ) → at_most old B ≡ true → at_most own B ≡ true → at_most now B ≡ true

  module _ (best : List ℕ) (i s : ℕ) where
    rows_before : (r : ℕ) → r ≤ i
        → highest_before at_most threshold (with_record at_most threshold best i s) r ≡ highest_before at_most threshold best r
    rows_before r a = go (at_most s (highest_before at_most threshold best (suc i))) refl
      where
        go : (c : Bool) → at_most s (highest_before at_most threshold best (suc i)) ≡ c
            → highest_before at_most threshold (with_record at_most threshold best i s) r ≡ highest_before at_most threshold best r
        go true e = rw (unrecorded at_most order threshold best i s e)
        go false e = rw (recorded at_most order threshold best i s e) (record_before at_most order threshold best i s r a)

    rows_behind : (r : ℕ) → i < length best → i < r
        → Joins (highest_before at_most threshold best r) s (highest_before at_most threshold (with_record at_most threshold best i s) r)
    rows_behind r l a = go (at_most s own) refl
      where
        own : ℕ
        own = highest_before at_most threshold best (suc i)

        old : ℕ
        old = highest_before at_most threshold best r

        go : (c : Bool) → at_most s own ≡ c → Joins old s (highest_before at_most threshold (with_record at_most threshold best i s) r)
        go true e =
            rw (unrecorded at_most order threshold best i s e)
            record {
              old_at_most = same at_most order old;
              own_at_most = order.trans s own old e (before_rises at_most order threshold best (suc i) r a);
              now_least = λ B x y. x;
            }
        go false e =
            rw (recorded at_most order threshold best i s e, record_behind at_most order threshold best i s r l e a)
            record {
              old_at_most = second_at_most at_most order s old;
              own_at_most = first_at_most at_most order s old;
              now_least = λ B x y. greater_least at_most order s old B y x;
            }

  pub knows_cell : (best : List ℕ) (i j : ℕ) → i ≤ j → j < h → j < length best → Knows best i j
      → Knows (with_record at_most threshold best i (score i j)) (suc i) j
  knows_cell best i j a l n k = record { bounds = bound; least = under }
    where
      s : ℕ
      s = score i j

      old : ℕ → ℕ
      old r = highest_before at_most threshold best (suc r)

      now : ℕ → ℕ
      now r = highest_before at_most threshold (with_record at_most threshold best i s) (suc r)

      joins : (r : ℕ) → i ≤ r → Joins (old r) s (now r)
      joins r b = rows_behind best i s (suc r) (omega arith) (omega arith)

      bound : (r r' c : ℕ) → r ≤ j → r' ≤ r → Passed (suc i) j r' c → at_most (score r' c) (now r) ≡ true
      bound r r' c x y p = go (leb i r) refl (passed_now i j r' c p)
        where
          go : (t : Bool) → leb i r ≡ t → Passed i j r' c ⊎ ((r' ≡ i) × (c ≡ j)) → at_most (score r' c) (now r) ≡ true
          go true e (inl q) = order.trans (score r' c) (old r) (now r) (k.bounds r r' c x y q) (joins r (leb-true i r e)).old_at_most
          go true e (inr (f, g)) = rw (f, g) (joins r (leb-true i r e)).own_at_most
          go false e (inl q) = ap (at_most (score r' c)) (rows_before best i s (suc r) (leb-false i r e)) ∙ k.bounds r r' c x y q
          go false e (inr (f, g)) = absurd (let b : r < i = leb-false i r e in omega arith)

      under : (r B : ℕ) → r ≤ j → at_most threshold B ≡ true
          → ((r' c : ℕ) → r' ≤ r → Passed (suc i) j r' c → at_most (score r' c) B ≡ true)
          → at_most (now r) B ≡ true
      under r B x t each = go (leb i r) refl
        where
          before : at_most (old r) B ≡ true
          before = k.least r B x t (λ r' c y p. each r' c y (passed_before_lem i j r' c p))

          go : (c : Bool) → leb i r ≡ c → at_most (now r) B ≡ true
          go true e = (joins r (leb-true i r e)).now_least B before (each i j (leb-true i r e) (l, inr (refl, le_refl (suc i))))
          go false e = ap (λ (m : ℕ). at_most m B) (rows_before best i s (suc r) (leb-false i r e)) ∙ before

  -- the next column
  pub knows_column : (best : List ℕ) (j : ℕ) → suc j < h → Knows best (suc (suc j)) (suc j) → Knows best 0 j
  knows_column best j l k =
      record {
        bounds = λ r r' c x y p. k.bounds r r' c (omega arith) y (into r' c (omega arith) p);
        least = λ r B x t each. k.least r B (omega arith) t (λ r' c y p. each r' c y (from r' c p));
      }
    where
      into : (r c : ℕ) → r ≤ j → Passed 0 j r c → Passed (suc (suc j)) (suc j) r c
      into r c x (m, inl a) = go (eq-or-lt_of_le a)
        where
          go : (suc j ≡ c) ⊎ (suc j < c) → Passed (suc (suc j)) (suc j) r c
          go (inl e) = (m, inr (sym e, omega arith))
          go (inr b) = (m, inl b)
      into r c x (m, inr (e, a)) = absurd (omega arith)

      from : (r c : ℕ) → Passed (suc (suc j)) (suc j) r c → Passed 0 j r c
      from r c (m, inl a) = (m, inl (omega arith))
      from r c (m, inr (e, a)) = (m, inl (omega arith))

  -- ---- the cell in hand

  pub final_known : (best : List ℕ) (i j : ℕ) → i ≤ j → j < h → Knows best i j
      → at_most (highest_before at_most threshold best (suc i)) (score i j) ≡ true
      → (at_most threshold (score i j) ≡ true) × ((r c : ℕ) → r ≤ i → j ≤ c → c < h → at_most (score r c) (score i j) ≡ true)
  final_known best i j a l k final =
      (order.trans threshold before own (threshold_at_most at_most order threshold best (suc i)) final, others)
    where
      own : ℕ
      own = score i j

      before : ℕ
      before = highest_before at_most threshold best (suc i)

      passed : (r c : ℕ) → r ≤ i → Passed i j r c → at_most (score r c) own ≡ true
      passed r c x p = order.trans (score r c) before own (k.bounds i r c a x p) final

      others : (r c : ℕ) → r ≤ i → j ≤ c → c < h → at_most (score r c) own ≡ true
      others r c x y m = go (eq-or-lt_of_le y) (eq-or-lt_of_le x)
        where
          go : (j ≡ c) ⊎ (j < c) → (r ≡ i) ⊎ (r < i) → at_most (score r c) own ≡ true
          go (inl e) (inl f) = rw (sym e, f) (same at_most order own)
          go (inl e) (inr b) = passed r c x (m, inr (sym e, b))
          go (inr b) f = passed r c x (m, inl b)

  pub known_final : (best : List ℕ) (i j : ℕ) → i ≤ j → j < h → Knows best i j → at_most threshold (score i j) ≡ true
      → ((r c : ℕ) → r ≤ i → j ≤ c → c < h → at_most (score r c) (score i j) ≡ true)
      → at_most (highest_before at_most threshold best (suc i)) (score i j) ≡ true
  known_final best i j a l k t others = k.least i (score i j) a t passed
    where
      passed : (r c : ℕ) → r ≤ i → Passed i j r c → at_most (score r c) (score i j) ≡ true
      passed r c x (m, inl b) = others r c x (omega arith) m
      passed r c x (m, inr (e, b)) = others r c x (omega arith) m
