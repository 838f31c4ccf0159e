-- Laws of sketches for the crates above: codes and positions go together, positions rise strictly and stay within the letters, and
-- each code is that of the k-mer at its position.
use Prim.Native.Nat.{ℕ, zero, suc, ◌+◌, ◌-◌, ◌^◌, ◌≤◌, ◌<◌, zero-le}
use native.Mathlib.Nat.{le_refl, le_trans, le-suc, zero-lt-suc, pow-le-pow_right, lt_of_lt_of_le}
use native.Mathlib.Omega.{arith}
use mathlib.Core.Path.{◌≡◌, refl, sym, subst}
use mathlib.Core.Logic.{◌⊎◌, inl, inr}
use mathlib.Core.Bool.{Bool, true, false}
use mathlib.Core.List.Memᴰ
use mathlib.Core.List.{List, [], ◌∷◌, ◌++◌, map, Memᴰ}
use lib.ListN.{length, get_or, take, drop, length-map}
use Rattle.kmers.proofs.Entries.{length_positions}
use Rattle.base.specs.Lists.{keep, add_if, range, any}
use Rattle.base.proofs.Lists.{keep_mem, map_append}
use Rattle.base.specs.Limits.{k_limit}
use Rattle.kmers.specs.Letters.{value, is_foreign}
use Rattle.kmers.specs.Kmers.{Entry, code_of, codes, positions, rank}
use Rattle.kmers.specs.Ranks.{rank_modulus}
use Rattle.minimizers.specs.Windows.{picks, windows}
use Rattle.minimizers.specs.Sketch.{sketch, picked_by}
use Rattle.kmers.specs.Places.{entry_at, code_at, span, run_end}
use Rattle.minimizers.specs.Places.{span_sketch, sketch_from}
use Rattle.kmers.proofs.Ranks.{rank_one_to_one}
use Rattle.kmers.proofs.Codes.{code_at_below}
use Rattle.minimizers.proofs.Runs.{by_runs, run_end_within, run_letters}

-- ---- positions

-- the numbers rise strictly, from `low` on and below `high`
abbrev pub Rising : ℕ → ℕ → List ℕ → Type 0
Rising low high [] = low ≤ high
Rising low high (p ∷ ps) = (low ≤ p) × Rising (suc p) high ps

rising_from : (low low' high : ℕ) (ps : List ℕ) → low' ≤ low → Rising low high ps → Rising low' high ps
rising_from low low' high [] h r = le_trans h r
rising_from low low' high (p ∷ ps) h r = (le_trans h r.0, r.1)

rising_append : (low middle high : ℕ) (ps qs : List ℕ) → Rising low middle ps → Rising middle high qs → Rising low high (ps ++ qs)
rising_append low middle high [] qs r s = rising_from middle low high qs r s
rising_append low middle high (p ∷ ps) qs r s = (r.0, rising_append (suc p) middle high ps qs r.1 s)

rising_keep : (f : Entry → Bool) (low high : ℕ) (es : List Entry) → Rising low high (positions es) → Rising low high (positions (keep f es))
rising_keep f low high [] r = r
rising_keep f low high (e ∷ es) r = go (f e) (rising_keep f (suc e.position) high es r.1)
  where
    go : (b : Bool) → Rising (suc e.position) high (positions (keep f es)) → Rising low high (positions (add_if b e (keep f es)))
    go true s = (r.0, s)
    go false s = rising_from (suc e.position) low high (positions (keep f es)) (le_trans r.0 (le-suc e.position)) s

rising_range : (k : ℕ) (letters : List ℕ) (from n high : ℕ) → from + n ≤ high
    → Rising from high (positions (map (entry_at k letters) (range from n)))
rising_range k letters from zero high h = omega arith
rising_range k letters from (suc n) high h = (le_refl from, rising_range k letters (suc from) n high (omega arith))

-- no more numbers than there is room for
pub rising_length : (low high : ℕ) (ps : List ℕ) → Rising low high ps → low + length ps ≤ high
rising_length low high [] r = omega arith
rising_length low high (p ∷ ps) r = let s : suc p + length ps ≤ high = rising_length (suc p) high ps r.1 in omega arith

rising_between : (low high : ℕ) (ps : List ℕ) → Rising low high ps → (i : ℕ) → i < length ps → (low ≤ get_or ps i 0) × (get_or ps i 0 < high)
rising_between low high [] r i h = absurd (omega arith)
rising_between low high (p ∷ ps) r zero h = (r.0, omega (arith, rising_length (suc p) high ps r.1))
rising_between low high (p ∷ ps) r (suc i) h = let s = rising_between (suc p) high ps r.1 i (omega arith) in (omega arith)

-- of two indices the greater has the greater number
rising_strictly : (low high : ℕ) (ps : List ℕ) → Rising low high ps → (i j : ℕ) → i < j → j < length ps → get_or ps i 0 < get_or ps j 0
rising_strictly low high [] r i j h l = absurd (omega arith)
rising_strictly low high (p ∷ ps) r i zero h l = absurd (omega arith)
rising_strictly low high (p ∷ ps) r zero (suc j) h l = (rising_between (suc p) high ps r.1 j (omega arith)).0
rising_strictly low high (p ∷ ps) r (suc i) (suc j) h l = rising_strictly (suc p) high ps r.1 i j (omega arith) (omega arith)

module _ (k w : ℕ) (letters : List ℕ) (some : 1 ≤ k) where
  -- the positions of a sketch rise strictly, and stay below the number of letters
  pub positions_rise : Rising 0 (length letters) (positions (sketch k w letters))
  unfolding sketch sketch_from span_sketch picked_by
  positions_rise = by_runs k w letters some P end run (length letters) 0 (omega arith) 0 zero-le zero-le
    where
      P : ℕ → List Entry → Type 0
      P at es = (low : ℕ) → low ≤ at → low ≤ length letters → Rising low (length letters) (positions es)

      end : (at : ℕ) → length letters ≤ at → P at []
      end at h low i j = j

      run : (at : ℕ) → at ≤ length letters → (es : List Entry) → P (suc (run_end letters at)) es
          → P at (span_sketch k w letters at (suc (run_end letters at) - k) ++ es)
      run at h es rest low i j =
          let in_letters : (at ≤ run_end letters at) × (run_end letters at ≤ length letters) = run_end_within letters at h in
          let to : ℕ = suc (run_end letters at) - k in
          let first : Rising at (run_end letters at) (positions (span k letters at to)) =
          rising_range k letters at (to - at) (run_end letters at) (omega arith) in
          let picked : Rising at (run_end letters at) (positions (span_sketch k w letters at to)) =
          rising_keep (λ (e : Entry). any (picks e.position) (windows w (span k letters at to))) at (run_end letters at) (span k letters at to) first in
          let behind : Rising (run_end letters at) (length letters) (positions es) = rest (run_end letters at) (le-suc (run_end letters at)) in_letters.1 in
          rw (map_append (λ (e : Entry). e.position) (span_sketch k w letters at to) es)
          (rising_from at low (length letters) (positions (span_sketch k w letters at to) ++ positions es) i
          (rising_append at (run_end letters at) (length letters) (positions (span_sketch k w letters at to)) (positions es) picked behind))

  -- no more entries than letters
  pub sketch_length : length (sketch k w letters) ≤ length letters
  sketch_length =
      subst (λ (n : ℕ). n ≤ length letters) (length-map (sketch k w letters) (λ (e : Entry). e.position))
      (omega (arith, rising_length 0 (length letters) (positions (sketch k w letters)) positions_rise))

  pub positions_strictly : (i j : ℕ) → i < j → j < length (positions (sketch k w letters))
      → get_or (positions (sketch k w letters)) i 0 < get_or (positions (sketch k w letters)) j 0
  positions_strictly i j h l = rising_strictly 0 (length letters) (positions (sketch k w letters)) positions_rise i j h l

  pub positions_below : (i : ℕ) → i < length (positions (sketch k w letters)) → get_or (positions (sketch k w letters)) i 0 < length letters
  positions_below i h = (rising_between 0 (length letters) (positions (sketch k w letters)) positions_rise i h).1

-- ---- codes

-- the entry is a k-mer of the letters: k letters of the eight stand from its position on, and its code is theirs
pub record IsKmer (k : ℕ) (letters : List ℕ) (e : Entry) : Type 0 where
  pub within : e.position + k ≤ length letters
  pub known : (q : ℕ) → e.position ≤ q → q < e.position + k → is_foreign (get_or letters q 0) ≡ false
  pub code_there : e.code ≡ code_of (map value (take k (drop e.position letters)))

span_kmer : (k : ℕ) (letters : List ℕ) (at from n : ℕ) → at ≤ from → at ≤ length letters → n ≤ suc (run_end letters at) - k - from
    → {e : Entry} → Memᴰ e (map (entry_at k letters) (range from n)) → IsKmer k letters e
unfolding code_at
span_kmer k letters at from zero h i l m = absurd (Memᴰ.not-nil m)
span_kmer k letters at from (suc n) h i l {e} m =
    go (λ m'. span_kmer k letters at (suc from) n (omega arith) i (omega arith) m') (Memᴰ.cases_cons m)
  where
    first : IsKmer k letters (entry_at k letters from)
    first = record {
      within = omega (arith, run_end_within letters at i);
      known = λ q a b. run_letters letters at q (omega arith) (omega arith);
      code_there = refl;
    }

    go : (Memᴰ e (map (entry_at k letters) (range (suc from) n)) → IsKmer k letters e)
        → (e ≡ entry_at k letters from) ⊎ Memᴰ e (map (entry_at k letters) (range (suc from) n)) → IsKmer k letters e
    go rec (inl p) = subst (λ (x : Entry). IsKmer k letters x) (sym p) first
    go rec (inr m') = rec m'

-- each entry of a sketch is a k-mer of the letters
sketch_kmer : (k w : ℕ) (letters : List ℕ) → 1 ≤ k → {e : Entry} → Memᴰ e (sketch k w letters) → IsKmer k letters e
unfolding sketch sketch_from span_sketch picked_by
sketch_kmer k w letters some {e} m = by_runs k w letters some P (λ at h m'. absurd (Memᴰ.not-nil m')) run (length letters) 0 (omega arith) m
  where
    P : ℕ → List Entry → Type 0
    P at es = Memᴰ e es → IsKmer k letters e

    run : (at : ℕ) → at ≤ length letters → (es : List Entry) → P (suc (run_end letters at)) es
        → P at (span_sketch k w letters at (suc (run_end letters at) - k) ++ es)
    run at h es rest m' = go (Memᴰ.append_cases (span_sketch k w letters at to) m')
      where
        to : ℕ
        to = suc (run_end letters at) - k

        go : Memᴰ e (span_sketch k w letters at to) ⊎ Memᴰ e es → IsKmer k letters e
        go (inl a) =
            span_kmer k letters at at (to - at) (le_refl at) h (le_refl (to - at))
            (keep_mem (λ (x : Entry). any (picks x.position) (windows w (span k letters at to))) (span k letters at to) a).0
        go (inr b) = rest b

-- the code of a k-mer is below 4^k
pub code_below : (k : ℕ) (letters : List ℕ) (e : Entry) → IsKmer k letters e → e.code < 4 ^ k
unfolding code_at
code_below k letters e is = rw is.code_there (code_at_below letters k e.position is.within is.known)

-- what holds of each entry, at an index
at_index : (P : Entry → Type 0) (es : List Entry) → ((e : Entry) → Memᴰ e es → P e) → (i : ℕ) → i < length es
    → (e : Entry) × P e × (get_or (codes es) i 0 ≡ e.code) × (get_or (positions es) i 0 ≡ e.position)
at_index P [] h i l = absurd (omega arith)
at_index P (e ∷ es) h zero l = (e, h e (Memᴰ.head refl), refl, refl)
at_index P (e ∷ es) h (suc i) l = at_index P es (λ x m. h x (Memᴰ.tail m)) i (omega arith)

module _ (k w : ℕ) (letters : List ℕ) (some : 1 ≤ k) where
  -- each code is that of the k-mer at its position
  pub codes_there : (i : ℕ) → i < length (sketch k w letters)
      → get_or (codes (sketch k w letters)) i 0 ≡ code_of (map value (take k (drop (get_or (positions (sketch k w letters)) i 0) letters)))
  codes_there i h =
      let e = at_index (IsKmer k letters) (sketch k w letters) (λ x m. sketch_kmer k w letters some m) i h in
      rw (e.2, e.3) e.1.code_there

  -- and lies within the letters
  pub positions_inside : (i : ℕ) → i < length (positions (sketch k w letters)) → get_or (positions (sketch k w letters)) i 0 + k ≤ length letters
  positions_inside i h =
      let e = at_index (IsKmer k letters) (sketch k w letters) (λ x m. sketch_kmer k w letters some m) i (rw (length_positions (sketch k w letters)) at h) in
      rw e.3 e.1.within

  pub codes_below : (i : ℕ) → i < length (sketch k w letters) → get_or (codes (sketch k w letters)) i 0 < 4 ^ k
  codes_below i h =
      let e = at_index (IsKmer k letters) (sketch k w letters) (λ x m. sketch_kmer k w letters some m) i h in
      rw e.2 (code_below k letters e.0 e.1)

-- a code of k letters, k at most 15, is below the modulus of the rank
below_modulus : (k x : ℕ) → k ≤ k_limit → x < 4 ^ k → x < rank_modulus
below_modulus k x h l = lt_of_lt_of_le l (pow-le-pow_right (zero-lt-suc 3) h)

-- unequal codes of one k have unequal ranks
pub codes_ranks : (k x y : ℕ) → k ≤ k_limit → x < 4 ^ k → y < 4 ^ k → rank x ≡ rank y → x ≡ y
codes_ranks k x y h hx hy e = rank_one_to_one x y (below_modulus k x h hx) (below_modulus k y h hy) e
