-- How judging goes on, word by word: one law for each way that it takes, and the ways as one type, for proofs that go through all.
use Prim.Native.Nat.{ℕ, suc, ◌≤◌}
use native.Mathlib.Omega.{arith}
use mathlib.Core.Path.{◌≡◌, refl}
use mathlib.Core.Logic.{◌⊎◌, inl, inr}
use mathlib.Core.Bool.{Bool, true, false}
use mathlib.Core.List.{List, [], ◌∷◌}
use lib.Dec.{eqb}
use lib.ListN.{length, get_or, drop}
use borrow.Author.Tests.{eqb-true}
use Rattle.base.proofs.Lists.{and_left, decided}
use Rattle.store.specs.Words.{kind, content, header_k, header_w, is_header, is_code, is_code_word, is_position_word}
use Rattle.store.specs.Load.{Judged, good, bad, with_entry, last_word, judge_from, judge, store_k, store_w}
use Rattle.store.proofs.WordLaws.{is_header_holds}

-- a word with a code is no last word
code_not_last : (k x : ℕ) → is_code_word k x ≡ true → eqb (kind x) 3 ≡ false
code_not_last k x h = rw (eqb-true (kind x) 1 (and_left (eqb (kind x) 1) (is_code k (content x)) h))

module _ (k index n low x : ℕ) where
  pub judge_last_lem : (rest : List ℕ) → eqb (kind x) 3 ≡ true → judge_from k index n low (x ∷ rest) ≡ last_word index n x rest
  unfolding judge_from
  judge_last_lem [] h = rw h
  judge_last_lem (y ∷ rest) h = rw h

  pub judge_first : (rest : List ℕ) → eqb (kind x) 3 ≡ false → is_code_word k x ≡ false → judge_from k index n low (x ∷ rest) ≡ bad 13 index
  unfolding judge_from
  judge_first [] h g = rw (h, g)
  judge_first (y ∷ rest) h g = rw (h, g)

  pub judge_half : is_code_word k x ≡ true → judge_from k index n low (x ∷ []) ≡ bad 14 (suc index)
  unfolding judge_from
  judge_half h = rw (code_not_last k x h, h)

  pub judge_second : (y : ℕ) (rest : List ℕ) → is_code_word k x ≡ true → is_position_word low y ≡ false
      → judge_from k index n low (x ∷ y ∷ rest) ≡ bad 13 (suc index)
  unfolding judge_from
  judge_second y rest h g = rw (code_not_last k x h, h, g)

  pub judge_entry :
      (y : ℕ) (rest : List ℕ) →
      is_code_word k x ≡ true →
      is_position_word low y ≡ true →
      judge_from k index n low (x ∷ y ∷ rest)
      ≡ with_entry (record { code = content x; position = content y }) (judge_from k (suc (suc index)) (suc n) (suc (content y)) rest)
  unfolding judge_from
  judge_entry y rest h g = rw (code_not_last k x h, h, g)

abbrev Decided : Bool → Type 0
Decided b = (b ≡ true) ⊎ (b ≡ false)

-- the ways that judging takes
pub data Way (k : ℕ) : ℕ → ℕ → ℕ → List ℕ → Judged → Type 0 where
  run_out : {index n low : ℕ} → Way k index n low [] (bad 14 index)
  last : {index n low x : ℕ} → eqb (kind x) 3 ≡ true → eqb (content x) n ≡ true → Way k index n low (x ∷ []) (good [])
  more : {index n low x y : ℕ} {rest : List ℕ} → eqb (kind x) 3 ≡ true → eqb (content x) n ≡ true
      → Way k index n low (x ∷ y ∷ rest) (bad 14 (suc index))
  miscount : {index n low x : ℕ} {rest : List ℕ} → eqb (kind x) 3 ≡ true → eqb (content x) n ≡ false
      → Way k index n low (x ∷ rest) (bad 14 index)
  first : {index n low x : ℕ} {rest : List ℕ} → eqb (kind x) 3 ≡ false → is_code_word k x ≡ false → Way k index n low (x ∷ rest) (bad 13 index)
  half : {index n low x : ℕ} → is_code_word k x ≡ true → Way k index n low (x ∷ []) (bad 14 (suc index))
  second : {index n low x y : ℕ} {rest : List ℕ} → is_code_word k x ≡ true → is_position_word low y ≡ false
      → Way k index n low (x ∷ y ∷ rest) (bad 13 (suc index))
  entry :
      {index n low x y : ℕ} {rest : List ℕ} {j : Judged} →
      is_code_word k x ≡ true →
      is_position_word low y ≡ true →
      Way k (suc (suc index)) (suc n) (suc (content y)) rest j →
      Way k index n low (x ∷ y ∷ rest) (with_entry (record { code = content x; position = content y }) j)

pub way : (k index n low : ℕ) (ws : List ℕ) → Way k index n low ws (judge_from k index n low ws)
unfolding judge_from last_word
way k index n low [] = run_out
way k index n low (x ∷ []) = go (decided (eqb (kind x) 3)) (decided (eqb (content x) n)) (decided (is_code_word k x))
  where
    go : Decided (eqb (kind x) 3) → Decided (eqb (content x) n) → Decided (is_code_word k x)
        → Way k index n low (x ∷ []) (judge_from k index n low (x ∷ []))
    go (inl h) (inl e) c = rw (h, e) (last h e)
    go (inl h) (inr e) c = rw (h, e) (miscount h e)
    go (inr h) e (inl c) = rw (h, c) (half c)
    go (inr h) e (inr c) = rw (h, c) (first h c)
way k index n low (x ∷ y ∷ rest) =
    go (way k (suc (suc index)) (suc n) (suc (content y)) rest)
    (decided (eqb (kind x) 3))
    (decided (eqb (content x) n))
    (decided (is_code_word k x))
    (decided (is_position_word low y))
  where
    go :
        Way k (suc (suc index)) (suc n) (suc (content y)) rest (judge_from k (suc (suc index)) (suc n) (suc (content y)) rest) →
        Decided (eqb (kind x) 3) →
        Decided (eqb (content x) n) →
        Decided (is_code_word k x) →
        Decided (is_position_word low y) →
        Way k index n low (x ∷ y ∷ rest) (judge_from k index n low (x ∷ y ∷ rest))
    go r (inl h) (inl e) c p = rw (h, e) (more h e)
    go r (inl h) (inr e) c p = rw (h, e) (miscount h e)
    go r (inr h) e (inl c) (inl p) = rw (h, c, p) (entry c p r)
    go r (inr h) e (inl c) (inr p) = rw (h, c, p) (second c p)
    go r (inr h) e (inr c) p = rw (h, c) (first h c)

-- ---- word 0

pub judge_empty : (ws : List ℕ) → length ws ≡ 0 → judge ws ≡ bad 12 0
unfolding judge
judge_empty [] h = refl
judge_empty (x ∷ rest) h = absurd (omega arith)

pub judge_no_header : (ws : List ℕ) → is_header (get_or ws 0 0) ≡ false → judge ws ≡ bad 12 0
unfolding judge
judge_no_header [] h = refl
judge_no_header (x ∷ rest) h = rw h

pub judge_header : (ws : List ℕ) → 1 ≤ length ws → is_header (get_or ws 0 0) ≡ true → judge ws ≡ judge_from (header_k (get_or ws 0 0)) 1 0 0 (drop 1 ws)
unfolding judge
judge_header [] some h = absurd (omega arith)
judge_header (x ∷ rest) some h = rw h

pub store_k_header : (ws : List ℕ) → 1 ≤ length ws → store_k ws ≡ header_k (get_or ws 0 0)
unfolding store_k
store_k_header [] some = absurd (omega arith)
store_k_header (x ∷ rest) some = refl

pub store_w_header : (ws : List ℕ) → 1 ≤ length ws → store_w ws ≡ header_w (get_or ws 0 0)
unfolding store_w
store_w_header [] some = absurd (omega arith)
store_w_header (x ∷ rest) some = refl

-- what word 0 tells
pub ruleset word_zero = (judge_empty, judge_no_header, judge_header, is_header_holds)
