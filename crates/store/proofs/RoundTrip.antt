-- Saving then loading gives the sketch back, and whatever loads is what saving its content gives: for any k, w and entries.
use Prim.Native.Nat.{ℕ, suc, ◌+◌, ◌*◌, ◌≤◌, ◌<◌}
use native.Mathlib.Omega.{arith}
use mathlib.Core.Path.{◌≡◌, refl, ap, ap₂, subst, subst⁻¹, ◌∙◌}
use mathlib.Core.Logic.{◌⊎◌, inl, inr}
use mathlib.Core.Bool.{true, false}
use mathlib.Core.List.{List, [], ◌∷◌}
use lib.Dec.{eqb}
use lib.ListN.{length, get_or}
use borrow.Author.Tests.{eq-eqb, eqb-true}
use Rattle.base.proofs.Lists.{and_both, and_left, and_right, decided}
use Rattle.base.specs.Limits.{k_limit, w_limit, letter_limit}
use Rattle.kmers.specs.Kmers.{Entry, codes, positions}
use Rattle.store.specs.Words.{kind_unit, kind, content, word, header_k, is_header, is_code, is_position, is_code_word, is_position_word}
use Rattle.store.specs.Save.{entry_words, stored, storable}
use Rattle.store.specs.Load.{Judged, good, bad, with_entry, last_word, judge_from, judge, store_k, store_w}
use Rattle.store.proofs.WordLaws.{kind_word, content_word, word_content, code_fits, is_position_range, is_header_holds, header_is_header}
use Rattle.store.proofs.WordLaws.{header_k_header, header_w_header}
use Rattle.store.proofs.Entries.{storable_parts, storable_length, storable_at, entry_words_at, length_stored}
use Rattle.store.proofs.Judging.{judge_last_lem, judge_entry, Way, run_out, last, more, miscount, first, half, second, entry, way}

-- ---- saving, then loading

judged_entry_words :
    (k index n low m : ℕ) (es : List Entry) →
    k ≤ k_limit →
    m < kind_unit →
    n + length es ≡ m →
    storable k low es ≡ true →
    judge_from k index n low (entry_words m es) ≡ good es
unfolding last_word
judged_entry_words k index n low m [] k_high fits count s =
    judge_last_lem k index n low (word 3 m) [] (ap (λ (t : ℕ). eqb t 3) (kind_word 3 m fits))
    ∙ rw (content_word 3 m fits, eq-eqb m n (omega arith))
judged_entry_words k index n low m (e ∷ es) k_high fits count s =
    let parts = storable_parts k low e es s in
    let code_fit = code_fits k e.code k_high parts.code_good in
    let position_fit : e.position < kind_unit = omega (arith, is_position_range low e.position parts.position_good) in
    judge_entry k index n low (word 1 e.code) (word 2 e.position) (entry_words m es)
    (rw (kind_word 1 e.code code_fit, content_word 1 e.code code_fit) parts.code_good)
    (rw (kind_word 2 e.position position_fit, content_word 2 e.position position_fit) parts.position_good)
    ∙ rw (
      content_word 1 e.code code_fit,
      content_word 2 e.position position_fit,
      judged_entry_words k (suc (suc index)) (suc n) (suc e.position) m es k_high fits (omega arith) parts.rest_good,
    )

module _ (k w : ℕ) (k_high : k ≤ k_limit) where
  pub store_k_stored : (es : List Entry) → store_k (stored k w es) ≡ k
  unfolding store_k stored
  store_k_stored es = header_k_header k w k_high

  pub store_w_stored : w ≤ w_limit → (es : List Entry) → store_w (stored k w es) ≡ w
  unfolding store_w stored
  store_w_stored w_high es = header_w_header k w k_high w_high

pub judge_stored : (k w : ℕ) (es : List Entry) → 1 ≤ k → k ≤ k_limit → 1 ≤ w → w ≤ w_limit → storable k 0 es ≡ true
    → judge (stored k w es) ≡ good es
unfolding judge stored
judge_stored k w es k_low k_high w_low w_high s =
    let few : 0 + length es ≤ letter_limit = storable_length k 0 es (omega arith) s in
    rw (header_is_header k w k_low k_high w_low w_high, header_k_header k w k_high)
    (judged_entry_words k 1 0 0 (length es) es k_high (omega arith) (omega arith) s)

-- ---- whatever loads is a store of its entries

not_good {ℓ} : {X : Type ℓ} {number index : ℕ} {es : List Entry} → bad number index ≡ good es → X
not_good h = let z : ◌≡◌ {A = ℕ} 0 1 = cc in absurd (omega arith)

with_entry_good : (e : Entry) (j : Judged) (es : List Entry) → with_entry e j ≡ good es → (rest : List Entry) × (j ≡ good rest) × (es ≡ e ∷ rest)
with_entry_good e (good rest) es h = (rest, refl, cc)
with_entry_good e (bad number index) es h = not_good h

-- words that hold these entries, n entries standing before them and the next position being at least `low`
record Holds (k n low : ℕ) (ws : List ℕ) (es : List Entry) : Type 0 where
  words : ws ≡ entry_words (n + length es) es
  entries_good : storable k low es ≡ true

holds_last : (k n low x : ℕ) → eqb (kind x) 3 ≡ true → eqb (content x) n ≡ true → Holds k n low (x ∷ []) []
holds_last k n low x h e =
    let count : content x ≡ n + 0 = omega (arith, eqb-true (content x) n e) in
    record { words = ap (λ (y : ℕ). y ∷ []) (word_content 3 x (eqb-true (kind x) 3 h) ∙ ap (word 3) count); entries_good = refl }

holds_entry :
    (k n low x y : ℕ) (rest : List ℕ) (es : List Entry) →
    is_code_word k x ≡ true →
    is_position_word low y ≡ true →
    Holds k (suc n) (suc (content y)) rest es →
    Holds k n low (x ∷ y ∷ rest) (record { code = content x; position = content y } ∷ es)
holds_entry k n low x y rest es c p h =
    let x_kind = and_left (eqb (kind x) 1) (is_code k (content x)) c in
    let y_kind = and_left (eqb (kind y) 2) (is_position low (content y)) p in
    let count : suc n + length es ≡ n + suc (length es) = omega arith in
    record {
      words =
          ap₂ (λ (x' y' : ℕ). x' ∷ y' ∷ rest) (word_content 1 x (eqb-true (kind x) 1 x_kind)) (word_content 2 y (eqb-true (kind y) 2 y_kind))
          ∙ ap (λ (l : List ℕ). word 1 (content x) ∷ word 2 (content y) ∷ l) (h.words ∙ ap (λ (m : ℕ). entry_words m es) count);
      entries_good =
          and_both
          (and_both (and_right (eqb (kind x) 1) (is_code k (content x)) c) (and_right (eqb (kind y) 2) (is_position low (content y)) p))
          h.entries_good;
    }

way_holds : {k index n low : ℕ} {ws : List ℕ} {j : Judged} → Way k index n low ws j → (es : List Entry) → j ≡ good es → Holds k n low ws es
way_holds run_out es g = not_good g
way_holds {k} {n} {low} (last {x} h e) es g = let nil : [] ≡ es = cc in subst (Holds k n low (x ∷ [])) nil (holds_last k n low x h e)
way_holds (more h e) es g = not_good g
way_holds (miscount h e) es g = not_good g
way_holds (first h c) es g = not_good g
way_holds (half c) es g = not_good g
way_holds (second c p) es g = not_good g
way_holds {k} {n} {low} (entry {x} {y} {rest} {j} c p r) es g =
    let split = with_entry_good (record { code = content x; position = content y }) j es g in
    subst⁻¹ (Holds k n low (x ∷ y ∷ rest)) split.2 (holds_entry k n low x y rest split.0 c p (way_holds r split.0 split.1))

-- the words are the store of these entries, with k and w in their ranges
pub record StoreOf (words : List ℕ) (es : List Entry) : Type 0 where
  pub whole : words ≡ stored (store_k words) (store_w words) es
  pub k_low : 1 ≤ store_k words
  pub k_high : store_k words ≤ k_limit
  pub w_low : 1 ≤ store_w words
  pub w_high : store_w words ≤ w_limit
  pub entries_good : storable (store_k words) 0 es ≡ true

pub judge_good : (words : List ℕ) (es : List Entry) → judge words ≡ good es → StoreOf words es
unfolding judge stored store_k store_w
judge_good [] es g = not_good g
judge_good (x ∷ rest) es g = go (decided (is_header x))
  where
    go : (is_header x ≡ true) ⊎ (is_header x ≡ false) → StoreOf (x ∷ rest) es
    go (inl h) =
        let ranges = is_header_holds x h in
        let judged : judge_from (header_k x) 1 0 0 rest ≡ good es = rw h at g in
        let holds = way_holds (way (header_k x) 1 0 0 rest) es judged in
        let count : 0 + length es ≡ length es = omega arith in
        record {
          whole = ap₂ (λ (y : ℕ) (l : List ℕ). y ∷ l) ranges.whole (holds.words ∙ ap (λ (m : ℕ). entry_words m es) count);
          k_low = ranges.k_low;
          k_high = ranges.k_high;
          w_low = ranges.w_low;
          w_high = ranges.w_high;
          entries_good = holds.entries_good;
        }
    go (inr h) = let refused : bad 12 0 ≡ good es = rw h at g in not_good refused

-- the contents of a store's words are its entries, in their order
pub loaded_at :
    (words : List ℕ) (es : List Entry) →
    judge words ≡ good es →
    (i : ℕ) →
    i < length es →
    (content (get_or words (2 * i + 1) 0) ≡ get_or (codes es) i 0) × (content (get_or words (2 * i + 2) 0) ≡ get_or (positions es) i 0)
unfolding stored
loaded_at words es g i h =
    let store = judge_good words es g in
    let k = store_k words in
    let w = store_w words in
    let both = entry_words_at (length es) es i h in
    let ranges = storable_at k 0 es i store.entries_good h in
    let code_fit = code_fits k (get_or (codes es) i 0) store.k_high ranges.0 in
    let position_fit : get_or (positions es) i 0 < kind_unit = omega (arith, ranges.1) in
    let at₁ : 2 * i + 1 ≡ suc (2 * i) = omega arith in
    let at₂ : 2 * i + 2 ≡ suc (2 * i + 1) = omega arith in (
      ap content (ap₂ (λ (l : List ℕ) (m : ℕ). get_or l m 0) store.whole at₁ ∙ both.0) ∙ content_word 1 (get_or (codes es) i 0) code_fit,
      ap content (ap₂ (λ (l : List ℕ) (m : ℕ). get_or l m 0) store.whole at₂ ∙ both.1) ∙ content_word 2 (get_or (positions es) i 0) position_fit,
    )

pub length_loaded : (words : List ℕ) (es : List Entry) → judge words ≡ good es → length words ≡ 2 * length es + 2
length_loaded words es g = ap length (judge_good words es g).whole ∙ length_stored (store_k words) (store_w words) es
