-- The tables of a session: reach and back tell in which cells a hit is reasonable as an end, come in pairs, and are told by how often each
-- code has occurred before.
use Prim.Native.Nat.{ℕ, zero, suc, ◌+◌, ◌-◌, ◌≤◌, ◌<◌, zero-le}
use native.Mathlib.Nat.{le_refl}
use native.Mathlib.Omega.{arith}
use mathlib.Core.Path.{◌≡◌, refl, sym, ap, ap₂, ◌∙◌}
use mathlib.Core.Logic.{◌⊎◌, inl, inr}
use mathlib.Core.Bool.{Bool, true, false, cond}
use mathlib.Core.List.{List}
use lib.Dec.{leb, ltb, eqb}
use lib.ListN.{length, get_or, take, drop}
use lib.Seq.{take-take}
use borrow.Author.Tests.{lt-ltb, le-ltb, le-leb, lt-leb, leb-true, leb-false, ltb-true, ltb-false, eq-eqb}
use Rattle.base.specs.Lists.{bit}
use Rattle.base.specs.Counts.{occ}
use Rattle.base.proofs.Lists.{eq_or_ne, clash}
use Rattle.base.proofs.Counts.{occ_split, occ_take_suc, bit_same, bit_other}
use Rattle.mappings.specs.Score.{Task, interval}
use Rattle.mappings.specs.HitCodes.{hit_codes}
use Rattle.mappings.specs.Cells.{hit_count}
use Rattle.mappings.proofs.Hits.{hit_in_pattern}
use Rattle.mappings.proofs.HitCodes.{length_hit_codes, get_d_hit_codes}
use Rattle.session_start.specs.Tables.{first_from, reach, back}
use Rattle.session_start.specs.Noting.{AllIn}

-- ---- the first number that passes a test

module _ (f : ℕ → Bool) where
  first_from_lem : (a n : ℕ) → a ≤ first_from f a n
  first_from_lem a zero = le_refl a
  first_from_lem a (suc n) = go (f a) (first_from_lem (suc a) n)
    where
      go : (b : Bool) → suc a ≤ first_from f (suc a) n → a ≤ cond b a (first_from f (suc a) n)
      go true h = le_refl a
      go false h = omega arith

  first_within : (a n : ℕ) → first_from f a n ≤ a + n
  first_within a zero = omega arith
  first_within a (suc n) = go (f a) (first_within (suc a) n)
    where
      go : (b : Bool) → first_from f (suc a) n ≤ suc a + n → cond b a (first_from f (suc a) n) ≤ a + suc n
      go true h = omega arith
      go false h = omega arith

  -- none before it passes
  first_before : (a n k : ℕ) → a ≤ k → k < first_from f a n → f k ≡ false
  first_before a zero k h l = absurd (omega arith)
  first_before a (suc n) k h l = go (f a) refl l (λ q r. first_before (suc a) n k q r) (eq_or_ne a k)
    where
      go : (b : Bool) → f a ≡ b → k < cond b a (first_from f (suc a) n) → (suc a ≤ k → k < first_from f (suc a) n → f k ≡ false)
          → (a ≡ k) ⊎ (a ≡ k → ⊥)
          → f k ≡ false
      go true e m rec s = absurd (omega arith)
      go false e m rec (inl s) = ap f (sym s) ∙ e
      go false e m rec (inr s) = rec (omega arith) m

  -- it passes, unless it is the end
  first_passes : (a n : ℕ) → first_from f a n < a + n → f (first_from f a n) ≡ true
  first_passes a zero h = absurd (omega arith)
  first_passes a (suc n) h = go (f a) refl h (λ q. first_passes (suc a) n q)
    where
      go : (b : Bool) → f a ≡ b → cond b a (first_from f (suc a) n) < a + suc n
          → (first_from f (suc a) n < suc a + n → f (first_from f (suc a) n) ≡ true)
          → f (cond b a (first_from f (suc a) n)) ≡ true
      go true e m rec = e
      go false e m rec = rec (omega arith)

  -- it is the only such number
  first_is : (a n k : ℕ) → a ≤ k → k ≤ a + n → ((i : ℕ) → a ≤ i → i < k → f i ≡ false) → (k < a + n → f k ≡ true)
      → first_from f a n ≡ k
  first_is a n k h l none some = go (ltb (first_from f a n) k) refl (ltb k (first_from f a n)) refl
    where
      go : (b : Bool) → ltb (first_from f a n) k ≡ b → (c : Bool) → ltb k (first_from f a n) ≡ c → first_from f a n ≡ k
      go true e c d =
          let q : first_from f a n < k = ltb-true (first_from f a n) k e in
          clash (first_passes a n (omega arith)) (none (first_from f a n) (first_from_lem a n) q)
      go false e true d =
          let q : k < first_from f a n = ltb-true k (first_from f a n) d in
          let w : first_from f a n ≤ a + n = first_within a n in
          clash (some (omega arith)) (first_before a n k h q)
      go false e false d =
          let q : k ≤ first_from f a n = ltb-false (first_from f a n) k e in
          let r : first_from f a n ≤ k = ltb-false k (first_from f a n) d in
          omega arith

pub first_same : (f g : ℕ → Bool) (a n : ℕ) → ((k : ℕ) → f k ≡ g k) → first_from f a n ≡ first_from g a n
first_same f g a zero h = refl
first_same f g a (suc n) h = ap₂ (λ (b : Bool) (later : ℕ). cond b a later) (h a) (first_same f g (suc a) n h)

-- ---- how often a code occurs before an index, and in an interval

module _ (g : List ℕ) where
  -- how often x occurs among the first k codes
  abbrev pub before : ℕ → ℕ → ℕ
  before x k = occ x (take k g)

  pub before_suc : (x k : ℕ) → k < length g → before x (suc k) ≡ before x k + bit (eqb x (get_or g k 0))
  before_suc x k h = occ_take_suc x k g h

  before_split : (x i k : ℕ) → i ≤ k → before x i + occ x (drop i (take k g)) ≡ before x k
  before_split x i k h = ap (λ (l : List ℕ). occ x l + occ x (drop i (take k g))) (sym (take-take i k g h)) ∙ occ_split x i (take k g)

  pub before_mono : (x i k : ℕ) → i ≤ k → before x i ≤ before x k
  before_mono x i k h = let e : before x i + occ x (drop i (take k g)) ≡ before x k = before_split x i k h in omega arith

  -- a hit's own code, one hit further
  pub before_own : (j : ℕ) → j < length g → before (get_or g j 0) (suc j) ≡ suc (before (get_or g j 0) j)
  before_own j h =
      let e : before (get_or g j 0) (suc j) ≡ before (get_or g j 0) j + bit (eqb (get_or g j 0) (get_or g j 0)) = before_suc (get_or g j 0) j h in
      let b : bit (eqb (get_or g j 0) (get_or g j 0)) ≡ 1 = bit_same (get_or g j 0) in
      omega arith

  -- the count in hits i to j
  occ_interval : (x i j : ℕ) → i ≤ j → before x i + occ x (interval g i j) ≡ before x (suc j)
  unfolding interval
  occ_interval x i j h = before_split x i (suc j) (omega arith)

-- ---- reach and back

module _ (p g : List ℕ) where
  -- the tests that reach and back go by, in counts before
  over : (x i j : ℕ) → i ≤ j → before g x i + occ x p < before g x (suc j) → ltb (occ x p) (occ x (interval g i j)) ≡ true
  over x i j h l =
      lt-ltb (occ x p) (occ x (interval g i j)) (let e : before g x i + occ x (interval g i j) ≡ before g x (suc j) = occ_interval g x i j h in omega arith)

  not_over : (x i j : ℕ) → i ≤ j → before g x (suc j) ≤ before g x i + occ x p → ltb (occ x p) (occ x (interval g i j)) ≡ false
  not_over x i j h l =
      le-ltb (occ x p) (occ x (interval g i j)) (let e : before g x i + occ x (interval g i j) ≡ before g x (suc j) = occ_interval g x i j h in omega arith)

  enough : (x i j : ℕ) → i ≤ j → before g x (suc j) ≤ before g x i + occ x p → leb (occ x (interval g i j)) (occ x p) ≡ true
  enough x i j h l =
      le-leb (occ x (interval g i j)) (occ x p) (let e : before g x i + occ x (interval g i j) ≡ before g x (suc j) = occ_interval g x i j h in omega arith)

  not_enough : (x i j : ℕ) → i ≤ j → before g x i + occ x p < before g x (suc j) → leb (occ x (interval g i j)) (occ x p) ≡ false
  not_enough x i j h l =
      lt-leb (occ x (interval g i j)) (occ x p) (let e : before g x i + occ x (interval g i j) ≡ before g x (suc j) = occ_interval g x i j h in omega arith)

  -- ---- reach

  pub reach_within : (i : ℕ) → i < length g → reach p g i ≤ length g
  unfolding reach
  reach_within i h =
      let w : reach p g i ≤ i + (length g - i) = first_within (λ (j : ℕ). ltb (occ (get_or g i 0) p) (occ (get_or g i 0) (interval g i j))) i (length g - i) in
      omega arith

  reach_from_lem : (i : ℕ) → i ≤ reach p g i
  unfolding reach
  reach_from_lem i = first_from_lem (λ (j : ℕ). ltb (occ (get_or g i 0) p) (occ (get_or g i 0) (interval g i j))) i (length g - i)

  -- up to it a hit's code occurs at most as often as in p
  reach_low : (i j : ℕ) → i ≤ j → j ≤ reach p g i → i < length g → before g (get_or g i 0) j ≤ before g (get_or g i 0) i + occ (get_or g i 0) p
  unfolding reach
  reach_low i zero h l k = let e : i ≡ 0 = omega arith in rw e (omega arith)
  reach_low i (suc j) h l k = go (eq_or_ne i (suc j))
    where
      x : ℕ
      x = get_or g i 0

      go : (i ≡ suc j) ⊎ (i ≡ suc j → ⊥) → before g (get_or g i 0) (suc j) ≤ before g (get_or g i 0) i + occ (get_or g i 0) p
      go (inl e) = rw (← e) (omega arith)
      go (inr n) =
          let t : ltb (occ (get_or g i 0) p) (occ (get_or g i 0) (interval g i j)) ≡ false =
          first_before (λ (y : ℕ). ltb (occ (get_or g i 0) p) (occ (get_or g i 0) (interval g i y))) i (length g - i) j (omega arith) l in
          let u : occ (get_or g i 0) (interval g i j) ≤ occ (get_or g i 0) p = ltb-false (occ (get_or g i 0) p) (occ (get_or g i 0) (interval g i j)) t in
          let e : before g (get_or g i 0) i + occ (get_or g i 0) (interval g i j) ≡ before g (get_or g i 0) (suc j) =
          occ_interval g (get_or g i 0) i j (omega arith) in
          omega arith

  -- from it on more often
  reach_high : (i : ℕ) → i < length g → reach p g i < length g
      → before g (get_or g i 0) i + occ (get_or g i 0) p < before g (get_or g i 0) (suc (reach p g i))
  unfolding reach
  reach_high i h l =
      let t : ltb (occ (get_or g i 0) p) (occ (get_or g i 0) (interval g i (reach p g i))) ≡ true =
      first_passes (λ (j : ℕ). ltb (occ (get_or g i 0) p) (occ (get_or g i 0) (interval g i j))) i (length g - i) (omega arith) in
      let u : occ (get_or g i 0) p < occ (get_or g i 0) (interval g i (reach p g i)) =
      ltb-true (occ (get_or g i 0) p) (occ (get_or g i 0) (interval g i (reach p g i))) t in
      let e : before g (get_or g i 0) i + occ (get_or g i 0) (interval g i (reach p g i)) ≡ before g (get_or g i 0) (suc (reach p g i)) =
      occ_interval g (get_or g i 0) i (reach p g i) (reach_from_lem i) in
      omega arith

  -- hit i is reasonable as the left end of (i, j) exactly for j below its reach
  pub reach_test : (i j : ℕ) → i ≤ j → j < length g → ltb j (reach p g i) ≡ leb (occ (get_or g i 0) (interval g i j)) (occ (get_or g i 0) p)
  reach_test i j h l = go (ltb j (reach p g i)) refl
    where
      go : (b : Bool) → ltb j (reach p g i) ≡ b → b ≡ leb (occ (get_or g i 0) (interval g i j)) (occ (get_or g i 0) p)
      go true e = sym (enough (get_or g i 0) i j h (reach_low i (suc j) (omega arith) (ltb-true j (reach p g i) e) (omega arith)))
      go false e =
          let q : reach p g i ≤ j = ltb-false j (reach p g i) e in
          let r : before g (get_or g i 0) i + occ (get_or g i 0) p < before g (get_or g i 0) (suc (reach p g i)) = reach_high i (omega arith) (omega arith) in
          let s : before g (get_or g i 0) (suc (reach p g i)) ≤ before g (get_or g i 0) (suc j) =
          before_mono g (get_or g i 0) (suc (reach p g i)) (suc j) (omega arith) in
          sym (not_enough (get_or g i 0) i j h (omega arith))

  -- ---- back

  -- from it on a hit's code occurs at most as often as in p
  back_high : (j : ℕ) → back p g j ≤ j → before g (get_or g j 0) (suc j) ≤ before g (get_or g j 0) (back p g j) + occ (get_or g j 0) p
  unfolding back
  back_high j h =
      let t : leb (occ (get_or g j 0) (interval g (back p g j) j)) (occ (get_or g j 0) p) ≡ true =
      first_passes (λ (i : ℕ). leb (occ (get_or g j 0) (interval g i j)) (occ (get_or g j 0) p)) 0 (suc j) (omega arith) in
      let u : occ (get_or g j 0) (interval g (back p g j) j) ≤ occ (get_or g j 0) p =
      leb-true (occ (get_or g j 0) (interval g (back p g j) j)) (occ (get_or g j 0) p) t in
      let e : before g (get_or g j 0) (back p g j) + occ (get_or g j 0) (interval g (back p g j) j) ≡ before g (get_or g j 0) (suc j) =
      occ_interval g (get_or g j 0) (back p g j) j h in
      omega arith

  -- before it more often
  back_low : (i j : ℕ) → i < back p g j → i ≤ j → before g (get_or g j 0) i + occ (get_or g j 0) p < before g (get_or g j 0) (suc j)
  unfolding back
  back_low i j h l =
      let t : leb (occ (get_or g j 0) (interval g i j)) (occ (get_or g j 0) p) ≡ false =
      first_before (λ (k : ℕ). leb (occ (get_or g j 0) (interval g k j)) (occ (get_or g j 0) p)) 0 (suc j) i zero-le h in
      let u : occ (get_or g j 0) p < occ (get_or g j 0) (interval g i j) = leb-false (occ (get_or g j 0) (interval g i j)) (occ (get_or g j 0) p) t in
      let e : before g (get_or g j 0) i + occ (get_or g j 0) (interval g i j) ≡ before g (get_or g j 0) (suc j) = occ_interval g (get_or g j 0) i j l in
      omega arith

  back_is : (j k : ℕ) → k ≤ j → ((i : ℕ) → i < k → before g (get_or g j 0) i + occ (get_or g j 0) p < before g (get_or g j 0) (suc j))
      → before g (get_or g j 0) (suc j) ≤ before g (get_or g j 0) k + occ (get_or g j 0) p → back p g j ≡ k
  unfolding back
  back_is j k h low high =
      first_is (λ (i : ℕ). leb (occ (get_or g j 0) (interval g i j)) (occ (get_or g j 0) p)) 0 (suc j) k zero-le (omega arith)
      (λ i a l. not_enough (get_or g j 0) i j (omega arith) (low i l))
      (λ l. enough (get_or g j 0) k j h high)

  -- ---- what holds where each code of the hits occurs in p

  module _ (all : AllIn p g) where
    reach_after : (i : ℕ) → i < length g → i < reach p g i
    reach_after i h = go (eq_or_ne i (reach p g i))
      where
        go : (i ≡ reach p g i) ⊎ (i ≡ reach p g i → ⊥) → i < reach p g i
        go (inl e) =
            let q : before g (get_or g i 0) i + occ (get_or g i 0) p < before g (get_or g i 0) (suc (reach p g i)) = reach_high i h (omega arith) in
            let r : before g (get_or g i 0) (suc (reach p g i)) ≡ before g (get_or g i 0) (suc i) = ap (λ (k : ℕ). before g (get_or g i 0) (suc k)) (sym e) in
            absurd (omega (arith, before_own g i h, all i h))
        go (inr n) = let f : i ≤ reach p g i = reach_from_lem i in omega arith

    pub back_within : (j : ℕ) → j < length g → back p g j ≤ j
    unfolding back
    back_within j h = go (leb (back p g j) j) refl
      where
        go : (b : Bool) → leb (back p g j) j ≡ b → back p g j ≤ j
        go true e = leb-true (back p g j) j e
        go false e =
            let q : before g (get_or g j 0) j + occ (get_or g j 0) p < before g (get_or g j 0) (suc j) =
            back_low j j (leb-false (back p g j) j e) (le_refl j) in
            absurd (omega (arith, before_own g j h, all j h))

    -- hit j is reasonable as the right end of (i, j) exactly for i from its back on
    pub back_test : (i j : ℕ) → i ≤ j → j < length g → leb (back p g j) i ≡ leb (occ (get_or g j 0) (interval g i j)) (occ (get_or g j 0) p)
    back_test i j h l = go (leb (back p g j) i) refl
      where
        go : (b : Bool) → leb (back p g j) i ≡ b → b ≡ leb (occ (get_or g j 0) (interval g i j)) (occ (get_or g j 0) p)
        go true e =
            let q : back p g j ≤ i = leb-true (back p g j) i e in
            let r : before g (get_or g j 0) (suc j) ≤ before g (get_or g j 0) (back p g j) + occ (get_or g j 0) p = back_high j (omega arith) in
            let s : before g (get_or g j 0) (back p g j) ≤ before g (get_or g j 0) i = before_mono g (get_or g j 0) (back p g j) i q in
            sym (enough (get_or g j 0) i j h (omega arith))
        go false e = sym (not_enough (get_or g j 0) i j h (back_low i j (leb-false (back p g j) i e) h))

    -- ---- reach and back come in pairs

    -- hit i's code comes again at hit j, as many occurrences later as p has of it
    pub record Pair (i j : ℕ) : Type 0 where
      pub ordered : i < j
      pub within : j < length g
      pub same_code : get_or g i 0 ≡ get_or g j 0
      pub later : before g (get_or g j 0) j ≡ before g (get_or g j 0) i + occ (get_or g j 0) p

    pub pair_reach : (i j : ℕ) → Pair i j → reach p g i ≡ j
    unfolding reach
    pair_reach i j r =
        rw r.same_code
        (first_is (λ (k : ℕ). ltb (occ (get_or g j 0) p) (occ (get_or g j 0) (interval g i k))) i (length g - i) j (omega (arith, r.ordered))
        (omega (arith, r.within))
        (λ k h l.
        let m : before g (get_or g j 0) (suc k) ≤ before g (get_or g j 0) j = before_mono g (get_or g j 0) (suc k) j l in
        not_over (get_or g j 0) i k h (omega (arith, r.later)))
        (λ l. over (get_or g j 0) i j (omega (arith, r.ordered)) (omega (arith, r.later, before_own g j r.within))))

    pub pair_back : (i j : ℕ) → Pair i j → back p g j ≡ suc i
    pair_back i j r =
        let own : before g (get_or g j 0) (suc i) ≡ suc (before g (get_or g j 0) i) =
        ap (λ (x : ℕ). before g x (suc i)) (sym r.same_code)
        ∙ before_own g i (omega (arith, r.ordered, r.within))
        ∙ ap (λ (x : ℕ). suc (before g x i)) r.same_code in
        back_is j (suc i) r.ordered
        (λ k l.
        let m : before g (get_or g j 0) k ≤ before g (get_or g j 0) i = before_mono g (get_or g j 0) k i (omega arith) in
        omega (arith, r.later, before_own g j r.within))
        (omega (arith, r.later, before_own g j r.within))

    -- a code that has occurred before less often than in p
    pub back_none : (j : ℕ) → j < length g → before g (get_or g j 0) j < occ (get_or g j 0) p → back p g j ≡ 0
    back_none j h l = back_is j 0 zero-le (λ i m. absurd (omega arith)) (omega (arith, before_own g j h))

    -- a count that grows at an index grows by that index's code
    grows : (x k : ℕ) → k < length g → before g x k < before g x (suc k) → (get_or g k 0 ≡ x) × (before g x (suc k) ≡ suc (before g x k))
    grows x k h l = go (eq_or_ne x (get_or g k 0))
      where
        e : before g x (suc k) ≡ before g x k + bit (eqb x (get_or g k 0))
        e = before_suc g x k h

        go : (x ≡ get_or g k 0) ⊎ (x ≡ get_or g k 0 → ⊥) → (get_or g k 0 ≡ x) × (before g x (suc k) ≡ suc (before g x k))
        go (inl s) = (sym s, let b : bit (eqb x (get_or g k 0)) ≡ 1 = ap bit (eq-eqb x (get_or g k 0) s) in omega (arith, e))
        go (inr n) = let b : bit (eqb x (get_or g k 0)) ≡ 0 = bit_other x (get_or g k 0) n in absurd (omega (arith, e))

    pub reach_pair : (i j : ℕ) → i < length g → reach p g i ≡ j → j < length g → Pair i j
    reach_pair i j h e l =
        let low : before g (get_or g i 0) j ≤ before g (get_or g i 0) i + occ (get_or g i 0) p =
        reach_low i j (omega (arith, reach_after i h)) (omega arith) h in
        let high : before g (get_or g i 0) i + occ (get_or g i 0) p < before g (get_or g i 0) (suc j) = rw e at (reach_high i h (omega arith)) in
        let s = grows (get_or g i 0) j l (omega arith) in
        record {
          ordered = omega (arith, reach_after i h);
          within = l;
          same_code = sym s.0;
          later = rw s.0 (omega (arith, s.1));
        }

    pub back_pair : (i j : ℕ) → j < length g → back p g j ≡ suc i → Pair i j
    back_pair i j h e =
        let w : back p g j ≤ j = back_within j h in
        let low : before g (get_or g j 0) i + occ (get_or g j 0) p < before g (get_or g j 0) (suc j) = back_low i j (omega arith) (omega arith) in
        let high : before g (get_or g j 0) (suc j) ≤ before g (get_or g j 0) (suc i) + occ (get_or g j 0) p = rw e at (back_high j w) in
        let s = grows (get_or g j 0) i (omega arith) (omega arith) in
        record {
          ordered = omega arith;
          within = h;
          same_code = s.0;
          later = omega (arith, s.1, before_own g j h);
        }

-- the codes of a task's hits occur in its pattern
pub hit_codes_in : (task : Task) → AllIn task.pattern (hit_codes task)
hit_codes_in task i h =
    let k : i < hit_count task = rw (length_hit_codes task) at h in
    rw (get_d_hit_codes task i k) (hit_in_pattern task i k)
