-- Windows by position: what a window picks is its lowest, picks never move left, and so the sketch of a run is the pick of each
-- window where it is new.
use Prim.Native.Nat.{ℕ, zero, suc, ◌+◌, ◌-◌, ◌≤◌, ◌<◌}
use native.Mathlib.Nat.{le_refl, le_antisymm, le_trans, le_of_eq, le_of_lt, le_step, lt_of_lt_of_le, lt_of_le_of_lt, lt_trans, ne_of_lt}
use native.Mathlib.Nat.{ne_of_gt, add-zero, add-sub_cancel_left}
use native.Mathlib.Omega.{arith}
use mathlib.Core.Path.{◌≡◌, refl, sym, ap, ap₂, ◌∙◌, subst}
use mathlib.Core.Bool.{Bool, true, false, cond}
use mathlib.Core.List.{List, [], ◌∷◌, map}
use lib.Dec.{leb, ltb, eqb}
use lib.ListN.{length, take, length-map}
use borrow.Author.Tests.{ltb-true, ltb-false, eqb-true, eqb-false, leb-true, leb-false, le-leb, lt-leb, lt-ltb, le-ltb, eq-eqb, ne_eqb}
use Rattle.base.specs.Lists.{add_if, keep, any, range}
use Rattle.base.proofs.Lists.{length_range, or_left}
use Rattle.kmers.specs.Kmers.{Entry}
use Rattle.minimizers.specs.Windows.{neighbours, windows, lower, lowest, picks}
use Rattle.minimizers.specs.Sketch.{picked_by}
use Rattle.kmers.specs.Places.{rank_at, entry_at, span}
use Rattle.minimizers.specs.Places.{span_sketch, IsLowest, picked_from}
use Rattle.kmers.proofs.Spans.{span_cons, span_none}

-- ---- the lowest of neighbouring positions, under any ranks

module _ (ranks : ℕ → ℕ) where
  pub lowest_one : (p : ℕ) → IsLowest ranks p (suc p) p
  lowest_one p = record { first = le_refl p; last = le_refl (suc p); left = λ q a b. absurd (omega arith); right = λ q a b. absurd (omega arith) }

  -- no position of the window has a lower rank
  lowest_le : (from to p : ℕ) → IsLowest ranks from to p → (q : ℕ) → from ≤ q → q < to → ranks p ≤ ranks q
  lowest_le from to p is q a b = go (ltb q p) refl (eqb q p) refl
    where
      go : (l : Bool) → ltb q p ≡ l → (s : Bool) → eqb q p ≡ s → ranks p ≤ ranks q
      go true l s e = is.left q a (ltb-true q p l)
      go false l true e = le_of_eq (ap ranks (sym (eqb-true q p e)))
      go false l false e =
          let n : q ≡ p → ⊥ = eqb-false q p e in
          let m : p ≤ q = ltb-false q p l in
          le_of_lt (is.right q (omega arith) b)

  -- one more position on the right, of a rank that is not greater
  pub lowest_new : (from to p : ℕ) → IsLowest ranks from to p → ranks to ≤ ranks p → IsLowest ranks from (suc to) to
  lowest_new from to p is h = record {
    first = le_trans is.first (le_of_lt is.last);
    last = le_refl (suc to);
    left = λ q a b. le_trans h (lowest_le from to p is q a b);
    right = λ q a b. absurd (omega arith);
  }

  -- one more position on the right, of a greater rank
  pub lowest_kept : (from to p : ℕ) → IsLowest ranks from to p → ranks p < ranks to → IsLowest ranks from (suc to) p
  lowest_kept from to p is h = record { first = is.first; last = le_step is.last; left = is.left; right = λ q a b. go q a b (eqb q to) refl }
    where
      go : (q : ℕ) → p < q → q < suc to → (s : Bool) → eqb q to ≡ s → ranks p < ranks q
      go q a b true e = subst (λ (x : ℕ). ranks p < ranks x) (sym (eqb-true q to e)) h
      go q a b false e = let n : q ≡ to → ⊥ = eqb-false q to e in is.right q a (omega arith)

  -- one position fewer on the left
  pub lowest_moved : (from to p : ℕ) → IsLowest ranks from to p → from < p → IsLowest ranks (suc from) to p
  lowest_moved from to p is h = record { first = h; last = is.last; left = λ q a b. is.left q (omega arith) b; right = is.right }

  -- the lowest never moves left
  lowest_mono : (from to p from' to' p' : ℕ) → IsLowest ranks from to p → IsLowest ranks from' to' p' → from ≤ from'
      → to ≤ to' → p ≤ p'
  lowest_mono from to p from' to' p' is is' a b = go (ltb p' p) refl
    where
      go : (l : Bool) → ltb p' p ≡ l → p ≤ p'
      go true l =
          let h : p' < p = ltb-true p' p l in
          let x : ranks p ≤ ranks p' = is.left p' (le_trans a is'.first) h in
          let y : ranks p' < ranks p = is'.right p h (lt_of_lt_of_le is.last b) in
          absurd (omega arith)
      go false l = ltb-false p' p l

  pub lowest_same : (ranks' : ℕ → ℕ) (from to p : ℕ) → ((q : ℕ) → from ≤ q → q < to → ranks q ≡ ranks' q)
      → IsLowest ranks from to p → IsLowest ranks' from to p
  lowest_same ranks' from to p same is =
      let at : ranks p ≡ ranks' p = same p is.first is.last in
      record {
        first = is.first;
        last = is.last;
        left = λ q a b. subst (λ (x : ℕ). x ≤ ranks' q) at (subst (λ (x : ℕ). ranks p ≤ x) (same q a (lt_trans b is.last)) (is.left q a b));
        right = λ q a b. subst (λ (x : ℕ). x < ranks' q)
            at (subst (λ (x : ℕ). ranks p < x) (same q (le_trans is.first (le_of_lt a)) b) (is.right q a b));
      }

  lowest_unique : (from to p p' : ℕ) → IsLowest ranks from to p → IsLowest ranks from to p' → p ≡ p'
  lowest_unique from to p p' is is' =
      le_antisymm
      (lowest_mono from to p from to p' is is' (le_refl from) (le_refl to))
      (lowest_mono from to p' from to p is' is (le_refl from) (le_refl to))

-- ---- windows of k-mers

keep_nothing : (es : List Entry) → keep (λ (e : Entry). false) es ≡ []
keep_nothing [] = refl
keep_nothing (e ∷ es) = keep_nothing es

module _ (k : ℕ) (letters : List ℕ) where
  -- what `lowest` finds from the k-mer at p on, where p is the lowest up to b, is the lowest of all
  lowest_onward : (from to n b p : ℕ) → b + n ≡ to → IsLowest (rank_at k letters) from b p
      → (p' : ℕ) × IsLowest (rank_at k letters) from to p'
      × (lowest (entry_at k letters p) (map (entry_at k letters) (range b n)) ≡ entry_at k letters p')
  unfolding lower rank_at
  lowest_onward from to zero b p h is = (p, subst (λ (x : ℕ). IsLowest (rank_at k letters) from x p) (sym (add-zero b) ∙ h) is, refl)
  lowest_onward from to (suc n) b p h is =
      go (leb (rank_at k letters b) (rank_at k letters p)) refl (λ p₁ is₁. lowest_onward from to n (suc b) p₁ (omega arith) is₁)
    where
      rest : List Entry
      rest = map (entry_at k letters) (range (suc b) n)

      Found : Entry → Type 0
      Found e = (p' : ℕ) × IsLowest (rank_at k letters) from to p' × (lowest e rest ≡ entry_at k letters p')

      go : (t : Bool) → leb (rank_at k letters b) (rank_at k letters p) ≡ t
          → ((p₁ : ℕ) → IsLowest (rank_at k letters) from (suc b) p₁ → Found (entry_at k letters p₁))
          → Found (cond t (entry_at k letters b) (entry_at k letters p))
      go true e rec = rec b (lowest_new (rank_at k letters) from b p is (leb-true (rank_at k letters b) (rank_at k letters p) e))
      go false e rec = rec p (lowest_kept (rank_at k letters) from b p is (leb-false (rank_at k letters b) (rank_at k letters p) e))

  -- each window that is not empty has a lowest, and picks it
  lowest_found : (from to : ℕ) → from < to
      → (p : ℕ) × IsLowest (rank_at k letters) from to p × ((x : ℕ) → picks x (span k letters from to) ≡ eqb x p)
  lowest_found from to h =
      let found = lowest_onward from to (to - suc from) (suc from) from (omega arith) (lowest_one (rank_at k letters) from) in
      (found.0, found.1, λ x. ap (picks x) (span_cons k letters from to h) ∙ ap (λ (e : Entry). eqb x e.position) found.2)

  -- a window picks its lowest
  picks_lowest : (from to p : ℕ) → IsLowest (rank_at k letters) from to p → (x : ℕ) → picks x (span k letters from to) ≡ eqb x p
  picks_lowest from to p is x =
      let found = lowest_found from to (lt_of_le_of_lt is.first is.last) in
      found.2 x ∙ ap (eqb x) (lowest_unique (rank_at k letters) from to found.0 p found.1 is)

  line_length : (a n : ℕ) → length (map (entry_at k letters) (range a n)) ≡ n
  line_length a n = length-map (range a n) (entry_at k letters) ∙ length_range a n

  line_take : (w n a : ℕ) → w ≤ n → take w (map (entry_at k letters) (range a n)) ≡ map (entry_at k letters) (range a w)
  line_take zero n a h = refl
  line_take (suc w) zero a h = absurd (omega arith)
  line_take (suc w) (suc n) a h = ap (λ (es : List Entry). entry_at k letters a ∷ es) (line_take w n (suc a) (omega arith))

  -- the window at i, and the later ones
  neighbours_span : (w i to : ℕ) → 1 ≤ w → i + w ≤ to
      → neighbours w (span k letters i to) ≡ span k letters i (i + w) ∷ neighbours w (span k letters (suc i) to)
  neighbours_span w i to some h =
      let n : ℕ = to - suc i in
      let all : span k letters i to ≡ map (entry_at k letters) (range i (suc n)) = span_cons k letters i to (omega arith) in
      let test : leb w (length (map (entry_at k letters) (range i (suc n)))) ≡ true =
      le-leb w (length (map (entry_at k letters) (range i (suc n)))) (rw (line_length i (suc n)) (omega arith)) in
      let window : take w (map (entry_at k letters) (range i (suc n))) ≡ span k letters i (i + w) =
      line_take w (suc n) i (omega arith) ∙ ap (λ (m : ℕ). map (entry_at k letters) (range i m)) (sym (add-sub_cancel_left i w)) in
      ap (neighbours w) all
      ∙ ap₂ (λ (t : Bool) (win : List Entry). add_if t win (neighbours w (span k letters (suc i) to))) test window

  -- fewer k-mers than w have no w neighbours
  neighbours_none : (w n i : ℕ) → n < w → neighbours w (map (entry_at k letters) (range i n)) ≡ []
  neighbours_none w zero i h = refl
  neighbours_none w (suc n) i h =
      let test : leb w (length (map (entry_at k letters) (range i (suc n)))) ≡ false =
      lt-leb w (length (map (entry_at k letters) (range i (suc n)))) (rw (line_length i (suc n)) h) in
      ap₂ (λ (t : Bool) (ws : List (List Entry)). add_if t (take w (map (entry_at k letters) (range i (suc n)))) ws) test
      (neighbours_none w n (suc i) (omega arith))

  -- left of a window's lowest neither it nor a later window picks
  none_left : (w to p x : ℕ) → 1 ≤ w → (i₀ : ℕ) → IsLowest (rank_at k letters) i₀ (i₀ + w) p → x < p
      → (n i : ℕ) → i₀ ≤ i → to ≤ i + n → any (picks x) (neighbours w (span k letters i to)) ≡ false
  none_left w to p x some i₀ is h zero i a b = ap (λ (es : List Entry). any (picks x) (neighbours w es)) (span_none k letters i to (omega arith))
  none_left w to p x some i₀ is h (suc n) i a b = go (leb (i + w) to) refl (none_left w to p x some i₀ is h n (suc i) (le_step a) (omega arith))
    where
      go : (t : Bool) → leb (i + w) to ≡ t → any (picks x) (neighbours w (span k letters (suc i) to)) ≡ false
          → any (picks x) (neighbours w (span k letters i to)) ≡ false
      go true t rec =
          let found = lowest_found i (i + w) (omega arith) in
          let right : p ≤ found.0 = lowest_mono (rank_at k letters) i₀ (i₀ + w) p i (i + w) found.0 is found.1 a (omega arith) in
          rw (neighbours_span w i to some (leb-true (i + w) to t), found.2 x, ne_eqb x found.0 (omega arith)) rec
      go false t rec = ap (any (picks x)) (neighbours_none w (to - i) i (omega (arith, leb-false (i + w) to t)))

  -- the first k-mer that the test keeps, and the others
  keep_first : (f : Entry → Bool) (to p : ℕ) → p < to → f (entry_at k letters p) ≡ true
      → (n m : ℕ) → m + n ≡ p → ((q : ℕ) → m ≤ q → q < p → f (entry_at k letters q) ≡ false)
      → keep f (span k letters m to) ≡ entry_at k letters p ∷ keep f (span k letters (suc p) to)
  keep_first f to p h is zero m e not =
      let same : p ≡ m = omega arith in
      ap (keep f) (subst (λ (x : ℕ). span k letters x to ≡ entry_at k letters p ∷ span k letters (suc p) to) same (span_cons k letters p to h))
      ∙ ap (λ (t : Bool). add_if t (entry_at k letters p) (keep f (span k letters (suc p) to))) is
  keep_first f to p h is (suc n) m e not =
      ap (keep f) (span_cons k letters m to (omega arith))
      ∙ ap (λ (t : Bool). add_if t (entry_at k letters m) (keep f (span k letters (suc m) to))) (not m (le_refl m) (omega arith))
      ∙ keep_first f to p h is n (suc m) (omega arith) (λ q a b. not q (omega arith) b)

  -- tests that agree from m on keep the same
  keep_agree : (f g : Entry → Bool) (n m : ℕ) → ((q : ℕ) → m ≤ q → f (entry_at k letters q) ≡ g (entry_at k letters q))
      → keep f (map (entry_at k letters) (range m n)) ≡ keep g (map (entry_at k letters) (range m n))
  keep_agree f g zero m h = refl
  keep_agree f g (suc n) m h =
      ap₂ (λ (t : Bool) (es : List Entry). add_if t (entry_at k letters m) es) (h m (le_refl m)) (keep_agree f g n (suc m) (λ q a. h q (omega arith)))

  -- ---- what a run still has to pick

  module _ (w to : ℕ) (some : 1 ≤ w) where
    -- the window at i picks nothing new where its lowest is left of m
    pub picked_old : (i m p : ℕ) → i + w ≤ to → IsLowest (rank_at k letters) i (i + w) p → p < m
        → picked_from k w letters to i m ≡ picked_from k w letters to (suc i) m
    unfolding picked_from
    picked_old i m p h is l =
        keep_agree (λ (e : Entry). any (picks e.position) (neighbours w (span k letters i to)))
        (λ (e : Entry). any (picks e.position) (neighbours w (span k letters (suc i) to))) (to - m) m (λ q a. other q (omega arith))
      where
        other : (q : ℕ) → p < q → any (picks q) (neighbours w (span k letters i to)) ≡ any (picks q) (neighbours w (span k letters (suc i) to))
        other q a = rw (neighbours_span w i to some h, picks_lowest i (i + w) p is q, ne_eqb q p (omega arith))

    -- the window at i picks its lowest, and what is left of it is never picked
    pub picked_new : (i m p : ℕ) → i + w ≤ to → IsLowest (rank_at k letters) i (i + w) p → m ≤ p
        → picked_from k w letters to i m ≡ entry_at k letters p ∷ picked_from k w letters to (suc i) (suc p)
    unfolding picked_from
    picked_new i m p h is l =
        keep_first f to p (omega (arith, is.last)) picked (p - m) m (omega arith)
        (λ q a b. none_left w to p q some i is b (to - i) i (le_refl i) (omega arith))
        ∙ ap (λ (es : List Entry). entry_at k letters p ∷ es) (picked_old i (suc p) p h is (le_refl (suc p)))
      where
        f : Entry → Bool
        f e = any (picks e.position) (neighbours w (span k letters i to))

        picked : f (entry_at k letters p) ≡ true
        picked = rw (neighbours_span w i to some h)
            (or_left (any (picks p) (neighbours w (span k letters (suc i) to))) (picks_lowest i (i + w) p is p ∙ eq-eqb p p refl))

    -- no window is left
    pub picked_none : (i m : ℕ) → to < i + w → picked_from k w letters to i m ≡ []
    unfolding picked_from
    picked_none i m h =
        ap (λ (ws : List (List Entry)). keep (λ (e : Entry). any (picks e.position) ws) (span k letters m to)) (neighbours_none w (to - i) i (omega arith))
        ∙ keep_nothing (span k letters m to)

    -- the sketch of a run with a window
    pub span_sketch_long : (from : ℕ) → from + w ≤ to → span_sketch k w letters from to ≡ picked_from k w letters to from from
    unfolding picked_from span_sketch picked_by windows
    span_sketch_long from h = ap (λ (ws : List (List Entry)). keep (λ (e : Entry). any (picks e.position) ws) (span k letters from to)) all
      where
        all : windows w (span k letters from to) ≡ neighbours w (span k letters from to)
        all = rw (span_cons k letters from to (omega arith))
            (rw (le-ltb (suc (length (span k letters (suc from) to))) w (rw (line_length (suc from) (to - suc from)) (omega arith))) refl)

    -- the sketch of a run with fewer k-mers than w, which form one window
    pub span_sketch_short : (from p : ℕ) → to < from + w → IsLowest (rank_at k letters) from to p
        → span_sketch k w letters from to ≡ entry_at k letters p ∷ []
    unfolding span_sketch picked_by windows
    span_sketch_short from p h is =
        ap (λ (ws : List (List Entry)). keep (λ (e : Entry). any (picks e.position) ws) (span k letters from to)) one
        ∙ keep_first f to p is.last picked (p - from) from (omega (arith, is.first)) (λ q a b. no_other q (ne_of_lt b))
        ∙ ap (λ (es : List Entry). entry_at k letters p ∷ es)
        (keep_agree f (λ (e : Entry). false) (to - suc p) (suc p) (λ q a. no_other q (ne_of_gt a)) ∙ keep_nothing (span k letters (suc p) to))
      where
        f : Entry → Bool
        f e = any (picks e.position) (span k letters from to ∷ [])

        some_kmer : from < to
        some_kmer = lt_of_le_of_lt is.first is.last

        one : windows w (span k letters from to) ≡ span k letters from to ∷ []
        one = rw (span_cons k letters from to some_kmer)
            (rw (lt-ltb (suc (length (span k letters (suc from) to))) w (rw (line_length (suc from) (to - suc from)) (omega arith))) refl)

        picked : f (entry_at k letters p) ≡ true
        picked = rw (picks_lowest from to p is p, eq-eqb p p refl)

        no_other : (q : ℕ) → (q ≡ p → ⊥) → f (entry_at k letters q) ≡ false
        no_other q n = rw (picks_lowest from to p is q, ne_eqb q p n)

    -- the sketch of a run with no k-mer
    pub span_sketch_none : (from : ℕ) → to ≤ from → span_sketch k w letters from to ≡ []
    unfolding span_sketch picked_by windows
    span_sketch_none from h = rw (span_none k letters from to h)
