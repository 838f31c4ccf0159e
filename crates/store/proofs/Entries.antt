-- The entries of two buffers, one word of each for an entry, the length of their store, and what storable entries are.
use Prim.Native.Nat.{ℕ, zero, suc, ◌+◌, ◌*◌, ◌^◌, ◌≤◌, ◌<◌}
use native.Mathlib.Nat.{le_trans}
use native.Mathlib.Omega.{arith}
use mathlib.Core.Path.{◌≡◌, refl, ap, ap₂, ◌∙◌}
use mathlib.Core.List.{List, [], ◌∷◌}
use mathlib.Core.Bool.{true, ◌&&◌}
use lib.ListN.{length, get_or, drop}
use lib.Seq.{drop-cons}
use borrow.Author.Tests.{lt-ltb, le-leb}
use Rattle.base.proofs.Lists.{and_both, and_left, and_right}
use Rattle.base.specs.Limits.{letter_limit}
use Rattle.kmers.specs.Kmers.{Entry, entries, codes, positions}
use Rattle.minimizers.specs.Sketch.{sketch}
use Rattle.minimizers.proofs.Laws.{Rising, rising_length, positions_rise, codes_below}
use Rattle.store.specs.Words.{word, is_code, is_position}
use Rattle.store.specs.Save.{entry_words, stored, storable}
use Rattle.store.proofs.WordLaws.{is_position_range}

pub length_entries : (cs ps : List ℕ) → length cs ≡ length ps → length (entries cs ps) ≡ length cs
length_entries [] ps h = refl
length_entries (c ∷ cs) [] h = absurd (omega arith)
length_entries (c ∷ cs) (p ∷ ps) h = ap suc (length_entries cs ps (omega arith))

-- the entries from an index on, one further
pub entries_drop :
    (cs ps : List ℕ) (i : ℕ) →
    length cs ≡ length ps →
    i < length cs →
    entries (drop i cs) (drop i ps) ≡ record { code = get_or cs i 0; position = get_or ps i 0 } ∷ entries (drop (suc i) cs) (drop (suc i) ps)
entries_drop cs ps i same h =
    let h' : i < length ps = omega arith in
    ap₂ entries (drop-cons cs i 0 h) (drop-cons ps i 0 h')

length_entry_words : (n : ℕ) (es : List Entry) → length (entry_words n es) ≡ 2 * length es + 1
length_entry_words n [] = refl
length_entry_words n (e ∷ es) = let r : length (entry_words n es) ≡ 2 * length es + 1 = length_entry_words n es in omega arith

-- the two words of an entry
pub entry_words_at :
    (n : ℕ) (es : List Entry) (i : ℕ) →
    i < length es →
    (get_or (entry_words n es) (2 * i) 0 ≡ word 1 (get_or (codes es) i 0)) × (get_or (entry_words n es) (2 * i + 1) 0 ≡ word 2 (get_or (positions es) i 0))
entry_words_at n [] i h = absurd (omega arith)
entry_words_at n (e ∷ es) zero h = (refl, refl)
entry_words_at n (e ∷ es) (suc i) h =
    let r = entry_words_at n es i (omega arith) in
    let at₁ : 2 * suc i ≡ suc (suc (2 * i)) = omega arith in
    let at₂ : 2 * suc i + 1 ≡ suc (suc (2 * i + 1)) = omega arith in
    (ap (λ (m : ℕ). get_or (entry_words n (e ∷ es)) m 0) at₁ ∙ r.0, ap (λ (m : ℕ). get_or (entry_words n (e ∷ es)) m 0) at₂ ∙ r.1)

pub length_stored : (k w : ℕ) (es : List Entry) → length (stored k w es) ≡ 2 * length es + 2
unfolding stored
length_stored k w es = let r : length (entry_words (length es) es) ≡ 2 * length es + 1 = length_entry_words (length es) es in omega arith

pub ruleset lengths = (length_entries, length_stored)

-- ---- storable entries

-- the first of storable entries, and the rest
pub record Storable (k low : ℕ) (e : Entry) (es : List Entry) : Type 0 where
  pub code_good : is_code k e.code ≡ true
  pub position_good : is_position low e.position ≡ true
  pub rest_good : storable k (suc e.position) es ≡ true

pub storable_parts : (k low : ℕ) (e : Entry) (es : List Entry) → storable k low (e ∷ es) ≡ true → Storable k low e es
storable_parts k low e es h =
    let front = is_code k e.code && is_position low e.position in
    let rest = storable k (suc e.position) es in
    let front_good = and_left front rest h in
    record {
      code_good = and_left (is_code k e.code) (is_position low e.position) front_good;
      position_good = and_right (is_code k e.code) (is_position low e.position) front_good;
      rest_good = and_right front rest h;
    }

-- positions rise strictly below 1,048,576: so many entries are storable at most
pub storable_length : (k low : ℕ) (es : List Entry) → low ≤ letter_limit → storable k low es ≡ true → low + length es ≤ letter_limit
storable_length k low [] h s = omega arith
storable_length k low (e ∷ es) h s =
    let parts = storable_parts k low e es s in
    let range = is_position_range low e.position parts.position_good in
    let r : suc e.position + length es ≤ letter_limit = storable_length k (suc e.position) es (omega arith) parts.rest_good in
    omega arith

-- each code and each position of storable entries is in its range
pub storable_at :
    (k low : ℕ) (es : List Entry) (i : ℕ) →
    storable k low es ≡ true →
    i < length es →
    (is_code k (get_or (codes es) i 0) ≡ true) × (get_or (positions es) i 0 < letter_limit)
storable_at k low [] i s h = absurd (omega arith)
storable_at k low (e ∷ es) zero s h =
    let parts = storable_parts k low e es s in
    (parts.code_good, (is_position_range low e.position parts.position_good).1)
storable_at k low (e ∷ es) (suc i) s h =
    let parts = storable_parts k low e es s in
    storable_at k (suc e.position) es i parts.rest_good (omega arith)

-- codes below 4^k at positions that rise strictly below 1,048,576 are storable
rising_storable :
    (k low : ℕ) (es : List Entry) →
    Rising low letter_limit (positions es) →
    ((i : ℕ) → i < length es → get_or (codes es) i 0 < 4 ^ k) →
    storable k low es ≡ true
unfolding is_code is_position
rising_storable k low [] r h = refl
rising_storable k low (e ∷ es) r h =
    let below : e.position < letter_limit = omega (arith, rising_length (suc e.position) letter_limit (positions es) r.1) in
    and_both
    (and_both (lt-ltb e.code (4 ^ k) (h 0 (omega arith))) (and_both (le-leb low e.position r.0) (lt-ltb e.position letter_limit below)))
    (rising_storable k (suc e.position) es r.1 (λ i l. h (suc i) (omega arith)))

rising_up : (low high high' : ℕ) (ps : List ℕ) → high ≤ high' → Rising low high ps → Rising low high' ps
rising_up low high high' [] h r = le_trans r h
rising_up low high high' (p ∷ ps) h r = (r.0, rising_up (suc p) high high' ps h r.1)

-- so is every sketch of accepted letters
pub sketch_storable : (k w : ℕ) (letters : List ℕ) → 1 ≤ k → length letters ≤ letter_limit → storable k 0 (sketch k w letters) ≡ true
sketch_storable k w letters some few =
    rising_storable k 0 (sketch k w letters)
    (rising_up 0 (length letters) letter_limit (positions (sketch k w letters)) few (positions_rise k w letters some))
    (codes_below k w letters some)
