-- Judging names the first bad word: no word before it is bad, and no word behind it matters.
use Prim.Native.Nat.{ℕ, suc, ◌+◌, ◌≤◌}
use native.Mathlib.Omega.{arith}
use mathlib.Core.Path.{◌≡◌, refl, ap, subst, subst₂, ◌∙◌}
use mathlib.Core.Logic.{◌⊎◌, inl, inr}
use mathlib.Core.Bool.{true, false}
use mathlib.Core.List.{List, [], ◌∷◌}
use lib.ListN.{take}
use Rattle.base.proofs.Lists.{decided}
use Rattle.kmers.specs.Kmers.{Entry}
use Rattle.store.specs.Words.{content, header_k, is_header, is_code_word, is_position_word}
use Rattle.store.specs.Load.{Judged, good, bad, with_entry, last_word, judge_from, judge}
use Rattle.store.proofs.Judging.{judge_last_lem, judge_first, judge_half, judge_second, judge_entry, Way, run_out, last, more, miscount, first, half}
use Rattle.store.proofs.Judging.{second, entry, way}

-- what is found in words that are cut before a bad one: that they run out there, or a whole store, behind which nothing may stand
abbrev pub NothingBad : ℕ → Judged → Type 0
NothingBad i j = (j ≡ bad 14 i) ⊎ ((es : List Entry) × (j ≡ good es))

nothing_bad_with : (e : Entry) (i : ℕ) (j : Judged) → NothingBad i j → NothingBad i (with_entry e j)
nothing_bad_with e i j (inl h) = inl (ap (with_entry e) h)
nothing_bad_with e i j (inr h) = inr (e ∷ h.0, ap (with_entry e) h.1)

-- the word at i is refused with this number, of words that judging reads from index on
record Named (k index n low : ℕ) (ws : List ℕ) (number i : ℕ) : Type 0 where
  offset : ℕ
  place : i ≡ index + offset
  before : NothingBad i (judge_from k index n low (take offset ws))
  after : (vs : List ℕ) → take (suc offset) vs ≡ take (suc offset) ws → judge_from k index n low vs ≡ bad number i

-- words that begin with x, as seen from another list
begins : (m : ℕ) (vs : List ℕ) {x : ℕ} {l : List ℕ} → take (suc m) vs ≡ x ∷ l → (rest : List ℕ) × (vs ≡ x ∷ rest) × (take m rest ≡ l)
begins m [] h = let z : ◌≡◌ {A = ℕ} 0 1 = cc in absurd (omega arith)
begins m (v ∷ vs) h = (vs, cc, cc)

ends : (m : ℕ) (vs : List ℕ) → take (suc m) vs ≡ [] → vs ≡ []
ends m [] h = refl
ends m (v ∷ vs) h = let z : ◌≡◌ {A = ℕ} 0 1 = cc in absurd (omega arith)

module _ (k index n low : ℕ) where
  -- a word that is refused whatever follows it, where a word of kind 1 or 3 is due
  named_here :
      (number : ℕ) (ws : List ℕ) →
      ((vs : List ℕ) → take 1 vs ≡ take 1 ws → judge_from k index n low vs ≡ bad number index) →
      Named k index n low ws number index
  unfolding judge_from
  named_here number ws h = record { offset = 0; place = omega arith; before = inl refl; after = h }

  -- the word behind x is refused whatever follows it
  named_next :
      (number x : ℕ) (ws : List ℕ) →
      NothingBad (suc index) (judge_from k index n low (x ∷ [])) →
      ((vs : List ℕ) → take 1 vs ≡ take 1 ws → judge_from k index n low (x ∷ vs) ≡ bad number (suc index)) →
      Named k index n low (x ∷ ws) number (suc index)
  named_next number x ws b h =
      record {
        offset = 1;
        place = omega arith;
        before = b;
        after = λ vs e. let r = begins 1 vs e in ap (judge_from k index n low) r.1 ∙ h r.0 r.2;
      }

  named_entry :
      (x y : ℕ) (rest : List ℕ) (number i : ℕ) →
      is_code_word k x ≡ true →
      is_position_word low y ≡ true →
      Named k (suc (suc index)) (suc n) (suc (content y)) rest number i →
      Named k index n low (x ∷ y ∷ rest) number i
  named_entry x y rest number i c p r =
      record {
        offset = suc (suc r.offset);
        place = omega arith;
        before =
            rw (judge_entry k index n low x y (take r.offset rest) c p)
            (nothing_bad_with (record { code = content x; position = content y }) i _ r.before);
        after =
            λ vs e.
            let v = begins (suc (suc r.offset)) vs e in
            let u = begins (suc r.offset) v.0 v.2 in
            ap (judge_from k index n low) (v.1 ∙ ap (λ (l : List ℕ). x ∷ l) u.1)
            ∙ judge_entry k index n low x y u.0 c p
            ∙ ap (with_entry (record { code = content x; position = content y })) (r.after u.0 u.2);
      }

not_bad {ℓ} : {X : Type ℓ} {number i : ℕ} {es : List Entry} → good es ≡ bad number i → X
not_bad h = let z : ◌≡◌ {A = ℕ} 0 1 = cc in absurd (omega arith)

with_entry_bad : (e : Entry) (j : Judged) (number i : ℕ) → with_entry e j ≡ bad number i → j ≡ bad number i
with_entry_bad e (good es) number i h = not_bad h
with_entry_bad e (bad number' i') number i h = h

-- the same word, whatever number and index the equation gives it
same_bad : {k index n low : ℕ} {ws : List ℕ} {number i number' i' : ℕ} → bad number i ≡ bad number' i' → Named k index n low ws number i
    → Named k index n low ws number' i'
same_bad {k} {index} {n} {low} {ws} {number} {i} {number'} {i'} h =
    let p : number ≡ number' = cc in
    let q : i ≡ i' = cc in
    subst₂ (Named k index n low ws) p q

way_named : {k index n low : ℕ} {ws : List ℕ} {j : Judged} → Way k index n low ws j → (number i : ℕ) → j ≡ bad number i
    → Named k index n low ws number i
unfolding judge_from last_word
way_named {k} {index} {n} {low} run_out number i g =
    same_bad g (named_here k index n low 14 [] (λ vs e. ap (judge_from k index n low) (ends 0 vs e)))
way_named (last h e) number i g = not_bad g
way_named {k} {index} {n} {low} (more {x} {y} {rest} h e) number i g =
    same_bad g
    (named_next k index n low 14 x (y ∷ rest) (inr ([], rw (h, e)))
    (λ vs s. let v = begins 0 vs s in ap (λ (l : List ℕ). judge_from k index n low (x ∷ l)) v.1 ∙ rw (h, e)))
way_named {k} {index} {n} {low} (miscount {x} {rest} h e) number i g =
    same_bad g
    (named_here k index n low 14 (x ∷ rest)
    (λ vs s. let v = begins 0 vs s in ap (judge_from k index n low) v.1 ∙ judge_last_lem k index n low x v.0 h ∙ rw e))
way_named {k} {index} {n} {low} (first {x} {rest} h c) number i g =
    same_bad g
    (named_here k index n low 13 (x ∷ rest)
    (λ vs s. let v = begins 0 vs s in ap (judge_from k index n low) v.1 ∙ judge_first k index n low x v.0 h c))
way_named {k} {index} {n} {low} (half {x} c) number i g =
    same_bad g
    (named_next k index n low 14 x [] (inl (judge_half k index n low x c))
    (λ vs s. ap (λ (l : List ℕ). judge_from k index n low (x ∷ l)) (ends 0 vs s) ∙ judge_half k index n low x c))
way_named {k} {index} {n} {low} (second {x} {y} {rest} c p) number i g =
    same_bad g
    (named_next k index n low 13 x (y ∷ rest) (inl (judge_half k index n low x c))
    (λ vs s. let v = begins 0 vs s in ap (λ (l : List ℕ). judge_from k index n low (x ∷ l)) v.1 ∙ judge_second k index n low x y v.0 c p))
way_named {k} {index} {n} {low} (entry {x} {y} {rest} {j} c p r) number i g =
    named_entry k index n low x y rest number i c p (way_named r number i (with_entry_bad (record { code = content x; position = content y }) j number i g))

-- what judging says of a bad word, and what it depends on
pub record FirstBad (words : List ℕ) (number i : ℕ) : Type 0 where
  -- words that are the same up to that word are refused the same
  pub after : (vs : List ℕ) → take (suc i) vs ≡ take (suc i) words → judge vs ≡ bad number i
  -- no word before it is bad
  pub before : 1 ≤ i → NothingBad i (judge (take i words))

pub first_bad : (words : List ℕ) (number i : ℕ) → judge words ≡ bad number i → FirstBad words number i
unfolding judge
first_bad [] number i g =
    let here : 0 ≡ i = cc in
    record { after = λ vs e. ap judge (ends i vs e) ∙ g; before = λ h. absurd (omega arith) }
first_bad (x ∷ rest) number i g = go (decided (is_header x))
  where
    go : (is_header x ≡ true) ⊎ (is_header x ≡ false) → FirstBad (x ∷ rest) number i
    go (inl h) =
        let judged : judge_from (header_k x) 1 0 0 rest ≡ bad number i = rw h at g in
        let named = way_named (way (header_k x) 1 0 0 rest) number i judged in
        let place : suc named.offset ≡ i = omega arith in
        record {
          after =
              λ vs e.
              let v = begins i vs e in
              ap judge v.1 ∙ rw h (named.after v.0 (rw place v.2));
          before = λ b. subst (λ (m : ℕ). NothingBad i (judge (take m (x ∷ rest)))) place (rw h named.before);
        }
    go (inr h) =
        let refused : bad 12 0 ≡ bad number i = rw h at g in
        let here : 0 ≡ i = cc in
        record {
          after = λ vs e. let v = begins i vs e in ap judge v.1 ∙ rw h refused;
          before = λ b. absurd (omega arith);
        }
