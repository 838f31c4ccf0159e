-- The ring of a word's slots: of the last hits with that word, as many as it occurs in the pattern, each stands in the place that its
-- number among them gives. So a hit finds its back there.
use Prim.Native.Nat.{ℕ, zero, suc, ◌+◌, ◌-◌, ◌*◌, ◌/◌, ◌%◌, ◌≤◌, ◌<◌}
use native.Mathlib.Nat.{le_refl, mod-lt, mod-le, mod-eq_of_lt, mod_self, mod-eq-sub-mod, suc-mod, div-add-mod, mul-le-mul_left}
use native.Mathlib.Omega.{arith}
use mathlib.Core.Path.{◌≡◌, refl, sym, ap, ap₂, ◌∙◌, subst}
use mathlib.Core.Logic.{◌⊎◌, inl, inr, ◌≢◌}
use mathlib.Core.Bool.{Bool, true, false, ◌&&◌}
use mathlib.Core.List.{List}
use lib.Dec.{leb, ltb, eqb}
use lib.ListN.{length, get_or, set}
use lib.Seq.{get_or-set_same, get_or-set_other}
use borrow.Author.Tests.{ltb-true, ltb-false, leb-true, leb-false, eq-eqb, ne_eqb}
use Rattle.base.specs.Lists.{bit}
use Rattle.base.specs.Counts.{occ}
use Rattle.sorting.specs.Sorting.{Sorted, LowerBound}
use Rattle.base.proofs.Lists.{eq_or_ne}
use Rattle.base.proofs.Counts.{bit_other}
use Rattle.sorting.proofs.Sorting.{Run, lower_bound_run, lower_bound_at, lower_bound_unique}
use Rattle.session_start.specs.Tables.{back}
use Rattle.session_start.specs.Noting.{AllIn, one_at}
use Rattle.session_start.proofs.Tables.{before, before_suc, before_mono, before_own, Pair, pair_back, back_none}

-- numbers with the same rest are a whole ring apart
same_rest : (a b c : ℕ) → a % c ≡ b % c → a < b → a + c ≤ b
same_rest a b c e h = go (leb (b / c) (a / c)) refl
  where
    go : (t : Bool) → leb (b / c) (a / c) ≡ t → a + c ≤ b
    go true f =
        let p : c * (a / c) + a % c ≡ a = div-add-mod a c in
        let q : c * (b / c) + b % c ≡ b = div-add-mod b c in
        let l : c * (b / c) ≤ c * (a / c) = mul-le-mul_left c (leb-true (b / c) (a / c) f) in
        absurd (omega arith)
    go false f =
        let p : c * (a / c) + a % c ≡ a = div-add-mod a c in
        let q : c * (b / c) + b % c ≡ b = div-add-mod b c in
        let l : c * suc (a / c) ≤ c * (b / c) = mul-le-mul_left c (leb-false (b / c) (a / c) f) in
        omega arith

-- ---- where a word stands among words in order

module _ (sorted : List ℕ) (in_order : Sorted sorted) where
  -- the word at index n + i is x exactly for the first i, as many as x occurs
  pub one_at_run : (x n i : ℕ) → LowerBound sorted x n → one_at sorted (n + i) x ≡ bit (ltb i (occ x sorted))
  one_at_run x n i l = go (ltb i (occ x sorted)) refl (ltb (n + i) (length sorted)) refl
    where
      run : Run x sorted n (n + occ x sorted)
      run = lower_bound_run sorted in_order x n l

      go : (b : Bool) → ltb i (occ x sorted) ≡ b → (t : Bool) → ltb (n + i) (length sorted) ≡ t → bit (t && eqb (get_or sorted (n + i) 0) x) ≡ bit b
      go true e true f = ap bit (eq-eqb (get_or sorted (n + i) 0) x (run.inside (n + i) (omega arith) (omega (arith, ltb-true i (occ x sorted) e))))
      go true e false f = absurd (omega (arith, ltb-true i (occ x sorted) e, ltb-false (n + i) (length sorted) f, run.within))
      go false e true f =
          ap bit (ne_eqb (get_or sorted (n + i) 0) x (run.behind (n + i) (omega (arith, ltb-false i (occ x sorted) e)) (ltb-true (n + i) (length sorted) f)))
      go false e false f = refl

  -- places of different words differ
  same_place : (x y s t i k : ℕ) → LowerBound sorted x s → LowerBound sorted y t → i < occ x sorted → k < occ y sorted → s + i ≡ t + k
      → (x ≡ y) × (i ≡ k)
  same_place x y s t i k l m h j e =
      let same : x ≡ y = sym (lower_bound_at sorted in_order x s l i h) ∙ ap (λ (n : ℕ). get_or sorted n 0) e
      ∙ lower_bound_at sorted in_order y t m k j in
      let n : s ≡ t = lower_bound_unique sorted x s t l (subst (λ (z : ℕ). LowerBound sorted z t) (sym same) m) in
      (same, omega arith)

-- ---- the k-th occurrence of a word

occurrence : (g : List ℕ) (x k j : ℕ) → j ≤ length g → k < before g x j → (i : ℕ) × (i < j) × (get_or g i 0 ≡ x) × (before g x i ≡ k)
occurrence g x k zero h l = absurd (omega arith)
occurrence g x k (suc j) h l = go (ltb k (before g x j)) refl (occurrence g x k j (omega arith)) (eq_or_ne x (get_or g j 0))
  where
    step : before g x (suc j) ≡ before g x j + bit (eqb x (get_or g j 0))
    step = before_suc g x j h

    go : (b : Bool) → ltb k (before g x j) ≡ b → (k < before g x j → (i : ℕ) × (i < j) × (get_or g i 0 ≡ x) × (before g x i ≡ k))
        → (x ≡ get_or g j 0) ⊎ (x ≢ get_or g j 0) → (i : ℕ) × (i < suc j) × (get_or g i 0 ≡ x) × (before g x i ≡ k)
    go true e rec s = let r = rec (ltb-true k (before g x j) e) in (r.0, omega (arith, r.1), r.2, r.3)
    go false e rec (inl s) =
        let one : bit (eqb x (get_or g j 0)) ≡ 1 = ap bit (eq-eqb x (get_or g j 0) s) in
        (j, omega arith, sym s, omega (arith, step, ltb-false k (before g x j) e))
    go false e rec (inr n) =
        let none : bit (eqb x (get_or g j 0)) ≡ 0 = bit_other x (get_or g j 0) n in
        absurd (omega (arith, step, ltb-false k (before g x j) e))

-- ---- the ring before hit j

module _ (sorted g : List ℕ) where
  -- whose turn it is at each slot; the hits that are kept; and the places that no hit has taken
  pub record Ring (turns ring : List ℕ) (j : ℕ) : Type 0 where
    pub turn : (x s : ℕ) → LowerBound sorted x s → 1 ≤ occ x sorted → get_or turns s 0 ≡ before g x j % occ x sorted
    pub kept : (i s : ℕ) → i < j → LowerBound sorted (get_or g i 0) s → before g (get_or g i 0) j ≤ before g (get_or g i 0) i + occ (get_or g i 0) sorted
        → get_or ring (s + before g (get_or g i 0) i % occ (get_or g i 0) sorted) 0 ≡ suc i
    pub free : (x s r : ℕ) → LowerBound sorted x s → before g x j ≤ r → r < occ x sorted → get_or ring (s + r) 0 ≡ 0

  module _ (in_order : Sorted sorted) (all : AllIn sorted g) (turns ring : List ℕ) (j s : ℕ) (now : Ring turns ring j) (within : j < length g)
      (lower : LowerBound sorted (get_or g j 0) s) where
    abbrev code : ℕ
    code = get_or g j 0

    some : 1 ≤ occ code sorted
    some = all j within

    turn_is : get_or turns s 0 ≡ before g code j % occ code sorted
    turn_is = now.turn code s lower some

    -- a hit's place is one of its word's slots
    turn_less : get_or turns s 0 < occ code sorted
    turn_less = rw turn_is (mod-lt (before g code j) some)

    pub place_within : s + get_or turns s 0 < length sorted
    place_within = omega (arith, turn_less, (lower_bound_run sorted in_order code s lower).within)

    -- a hit finds its back in its place
    pub ring_back : get_or ring (s + get_or turns s 0) 0 ≡ back sorted g j
    ring_back = go (ltb (before g code j) (occ code sorted)) refl
      where
        go : (b : Bool) → ltb (before g code j) (occ code sorted) ≡ b → get_or ring (s + get_or turns s 0) 0 ≡ back sorted g j
        go true e =
            let less : before g code j < occ code sorted = ltb-true (before g code j) (occ code sorted) e in
            rw (turn_is, mod-eq_of_lt less)
            (now.free code s (before g code j) lower (le_refl (before g code j)) less ∙ sym (back_none sorted g all j within less))
        go false e =
            let more : occ code sorted ≤ before g code j = ltb-false (before g code j) (occ code sorted) e in
            let r = occurrence g code (before g code j - occ code sorted) j (omega arith) (omega (arith, some)) in
            let pair : Pair sorted g all r.0 j = record { ordered = r.1; within = within; same_code = r.2; later = omega (arith, r.3, more) } in
            let old : get_or ring (s + before g code r.0 % occ code sorted) 0 ≡ suc r.0 =
            rw r.2 at (now.kept r.0 s r.1 (rw r.2 lower) (rw r.2 (omega (arith, r.3, more)))) in
            ap (λ (t : ℕ). get_or ring (s + t) 0) (turn_is ∙ mod-eq-sub-mod more ∙ ap (λ (n : ℕ). n % occ code sorted) (sym r.3))
            ∙ old
            ∙ sym (pair_back sorted g all r.0 j pair)

    before_other : (y : ℕ) → y ≢ code → before g y (suc j) ≡ before g y j
    before_other y n =
        let e : before g y (suc j) ≡ before g y j + bit (eqb y code) = before_suc g y j within in
        let b : bit (eqb y code) ≡ 0 = bit_other y code n in
        omega arith

    abbrev next_turn : ℕ
    next_turn = (get_or turns s 0 + 1) * one_at sorted (s + get_or turns s 0 + 1) code

    -- the turn goes round
    turn_next : next_turn ≡ before g code (suc j) % occ code sorted
    turn_next =
        ap (λ (n : ℕ). (get_or turns s 0 + 1) * n)
        (ap (λ (n : ℕ). one_at sorted n code) (let e : s + get_or turns s 0 + 1 ≡ s + (get_or turns s 0 + 1) = omega arith in e)
        ∙ one_at_run sorted in_order code s (get_or turns s 0 + 1) lower)
        ∙ go (ltb (get_or turns s 0 + 1) (occ code sorted)) refl
        ∙ ap (λ (n : ℕ). suc n % occ code sorted) turn_is
        ∙ sym (suc-mod (before g code j) (occ code sorted))
        ∙ ap (λ (n : ℕ). n % occ code sorted) (sym (before_own g j within))
      where
        go : (b : Bool) → ltb (get_or turns s 0 + 1) (occ code sorted) ≡ b → (get_or turns s 0 + 1) * bit b ≡ suc (get_or turns s 0) % occ code sorted
        go true e =
            let l : suc (get_or turns s 0) < occ code sorted = omega (arith, ltb-true (get_or turns s 0 + 1) (occ code sorted) e) in
            (let f : (get_or turns s 0 + 1) * 1 ≡ suc (get_or turns s 0) = omega arith in f) ∙ sym (mod-eq_of_lt l)
        go false e =
            let l : suc (get_or turns s 0) ≡ occ code sorted = omega (arith, ltb-false (get_or turns s 0 + 1) (occ code sorted) e, turn_less) in
            (let f : (get_or turns s 0 + 1) * 0 ≡ 0 = omega arith in f) ∙ sym (ap (λ (n : ℕ). n % occ code sorted) l ∙ mod_self (occ code sorted))

    -- the slot of a word is the hit's slot where the word is its code
    own_slot : (x t : ℕ) → x ≡ code → LowerBound sorted x t → t ≡ s
    own_slot x t e l = lower_bound_unique sorted code t s (subst (λ (y : ℕ). LowerBound sorted y t) e l) lower

    module _ (p : length turns ≡ length sorted) (q : length ring ≡ length sorted) where
      turn_after : (x t : ℕ) → LowerBound sorted x t → 1 ≤ occ x sorted → get_or (set turns s next_turn) t 0 ≡ before g x (suc j) % occ x sorted
      turn_after x t l h = go (eq_or_ne x code)
        where
          go : (x ≡ code) ⊎ (x ≢ code) → get_or (set turns s next_turn) t 0 ≡ before g x (suc j) % occ x sorted
          go (inl e) =
              ap (λ (n : ℕ). get_or (set turns s next_turn) n 0) (own_slot x t e l)
              ∙ get_or-set_same turns s next_turn 0 (omega (arith, place_within))
              ∙ turn_next
              ∙ ap (λ (y : ℕ). before g y (suc j) % occ y sorted) (sym e)
          go (inr n) =
              get_or-set_other turns s t next_turn 0 (λ e. n (same_place sorted in_order x code t s 0 0 l lower h some (omega arith)).0)
              ∙ now.turn x t l h
              ∙ ap (λ (k : ℕ). k % occ x sorted) (sym (before_other x n))

      kept_after : (i t : ℕ) → i < suc j → LowerBound sorted (get_or g i 0) t
          → before g (get_or g i 0) (suc j) ≤ before g (get_or g i 0) i + occ (get_or g i 0) sorted
          → get_or (set ring (s + get_or turns s 0) (suc j)) (t + before g (get_or g i 0) i % occ (get_or g i 0) sorted) 0 ≡ suc i
      kept_after i t h l m = go (eq_or_ne i j)
        where
          go : (i ≡ j) ⊎ (i ≢ j) → get_or (set ring (s + get_or turns s 0) (suc j)) (t + before g (get_or g i 0) i % occ (get_or g i 0) sorted) 0 ≡ suc i
          go (inl e) =
              ap (λ (n : ℕ). get_or (set ring (s + get_or turns s 0) (suc j)) n 0)
              (ap₂ ◌+◌ (own_slot (get_or g i 0) t (ap (λ (k : ℕ). get_or g k 0) e) l)
              (ap (λ (k : ℕ). before g (get_or g k 0) k % occ (get_or g k 0) sorted) e ∙ sym turn_is))
              ∙ get_or-set_same ring (s + get_or turns s 0) (suc j) 0 (omega (arith, place_within))
              ∙ ap suc (sym e)
          go (inr n) =
              get_or-set_other ring (s + get_or turns s 0) (t + before g (get_or g i 0) i % occ (get_or g i 0) sorted) (suc j) 0
              (λ e.
              apart
              (same_place sorted in_order (get_or g i 0) code t s (before g (get_or g i 0) i % occ (get_or g i 0) sorted) (get_or turns s 0) l lower
              (mod-lt (before g (get_or g i 0) i) (all i (omega arith))) turn_less e))
              ∙ now.kept i t (omega arith) l (omega (arith, before_mono g (get_or g i 0) j (suc j) (omega arith)))
            where
              apart : (get_or g i 0 ≡ code) × (before g (get_or g i 0) i % occ (get_or g i 0) sorted ≡ get_or turns s 0) → ⊥
              apart same =
                  let own : before g (get_or g i 0) (suc j) ≡ suc (before g (get_or g i 0) j) = rw same.0 (before_own g j within) in
                  let rest : before g (get_or g i 0) i % occ (get_or g i 0) sorted ≡ before g (get_or g i 0) j % occ (get_or g i 0) sorted =
                  same.1 ∙ turn_is ∙ ap (λ (z : ℕ). before g z j % occ z sorted) (sym same.0) in
                  let less : before g (get_or g i 0) i < before g (get_or g i 0) j =
                  omega (arith, before_own g i (omega arith), before_mono g (get_or g i 0) (suc i) j (omega arith)) in
                  let far : before g (get_or g i 0) i + occ (get_or g i 0) sorted ≤ before g (get_or g i 0) j =
                  same_rest (before g (get_or g i 0) i) (before g (get_or g i 0) j) (occ (get_or g i 0) sorted) rest less in
                  omega arith

      free_after : (x t r : ℕ) → LowerBound sorted x t → before g x (suc j) ≤ r → r < occ x sorted
          → get_or (set ring (s + get_or turns s 0) (suc j)) (t + r) 0 ≡ 0
      free_after x t r l h k =
          get_or-set_other ring (s + get_or turns s 0) (t + r) (suc j) 0
          (λ e. apart (same_place sorted in_order x code t s r (get_or turns s 0) l lower k turn_less e))
          ∙ now.free x t r l (omega (arith, before_mono g x j (suc j) (omega arith))) k
        where
          apart : (x ≡ code) × (r ≡ get_or turns s 0) → ⊥
          apart same =
              let own : before g x (suc j) ≡ suc (before g code j) = rw same.0 (before_own g j within) in
              omega (arith, same.1, turn_is, mod-le (before g code j) (occ code sorted))

      -- the ring after hit j
      pub ring_more : Ring (set turns s next_turn) (set ring (s + get_or turns s 0) (suc j)) (suc j)
      ring_more = record { turn = turn_after; kept = kept_after; free = free_after }
