-- Laws of the parts between separators: the first part is what stands before the first separator, the rest are the parts of what stands
-- behind it. Lines and fields are both read by them.
use Prim.Native.Nat.{ℕ, suc, ◌+◌, ◌-◌, ◌≤◌, ◌<◌}
use native.Mathlib.Omega.{arith}
use mathlib.Core.Path.{◌≡◌, refl, sym, ap, ap₂, ◌∙◌}
use mathlib.Core.Logic.{◌⊎◌, inl, inr}
use mathlib.Core.Bool.{Bool, true, false, cond}
use mathlib.Core.List.{List, [], ◌∷◌}
use lib.Dec.{eqb, ltb}
use Rattle.std.specs.Prelude.{Option, Some, None, position}
use Rattle.std.specs.List.{position_or_len}
use borrow.Author.Tests.{ltb-true, ltb-false}
use Rattle.base.proofs.Lists.{decided}
use lib.ListN.{length, get_or, take, drop, length-drop}
use lib.Seq.{drop-drop}
use Rattle.base.specs.Lists.{extend, parts_between}
use Rattle.list_input.specs.Answers.{first_part}
use Rattle.list_line.proofs.Buffers.{part_to_end}

-- the parts between the bytes b
abbrev pub parts : ℕ → List ℕ → List (List ℕ)
parts b l = parts_between (λ (x : ℕ). eqb x b) l

module _ (b : ℕ) where
  first_extend : (x : ℕ) (ps : List (List ℕ)) → get_or (extend x ps) 0 [] ≡ x ∷ get_or ps 0 []
  first_extend x [] = refl
  first_extend x (p ∷ ps) = refl

  -- a separator ends the part
  pub first_at : (x : ℕ) (l : List ℕ) → eqb x b ≡ true → first_part b (x ∷ l) ≡ []
  unfolding first_part
  first_at x l e = rw e

  -- any other byte is in it
  pub first_more : (x : ℕ) (l : List ℕ) → eqb x b ≡ false → first_part b (x ∷ l) ≡ x ∷ first_part b l
  unfolding first_part
  first_more x l e = rw e (first_extend x (parts b l))

  -- what holds of the parts of no byte, of those of a separator and more, and of those of another byte and more
  parts_by : (P : List ℕ → List ℕ → List (List ℕ) → Type 0)
      → P [] [] ([] ∷ [])
      → ((x : ℕ) (l : List ℕ) → eqb x b ≡ true → P (x ∷ l) [] ([] ∷ parts b l))
      → ((x : ℕ) (l : List ℕ) → eqb x b ≡ false → P l (first_part b l) (parts b l) → P (x ∷ l) (x ∷ first_part b l) (extend x (parts b l)))
      → (l : List ℕ) → P l (first_part b l) (parts b l)
  unfolding first_part
  parts_by P none at more [] = none
  parts_by P none at more (x ∷ l) = go (parts_by P none at more l) (eqb x b) refl
    where
      go : P l (first_part b l) (parts b l) → (t : Bool) → eqb x b ≡ t → P (x ∷ l) (first_part b (x ∷ l)) (parts b (x ∷ l))
      go rec true e = rw e (at x l e)
      go rec false e = rw (e, first_extend x (parts b l)) (more x l e rec)

  pub first_take : (l : List ℕ) → first_part b l ≡ take (length (first_part b l)) l
  first_take = parts_by (λ l p ps. p ≡ take (length p) l) refl (λ x l e. refl) (λ x l e rec. ap (λ (r : List ℕ). x ∷ r) rec)

  pub first_le : (l : List ℕ) → length (first_part b l) ≤ length l
  first_le = parts_by (λ l p ps. length p ≤ length l) (omega arith) (λ x l e. omega arith) (λ x l e rec. omega arith)

  -- no separator: one part
  pub parts_one : (l : List ℕ) → length (first_part b l) ≡ length l → parts b l ≡ l ∷ []
  parts_one =
      parts_by
      (λ l p ps. length p ≡ length l → ps ≡ l ∷ [])
      (λ h. refl)
      (λ x l e h. absurd (omega arith))
      (λ x l e rec h. ap (extend x) (rec (omega arith)))

  -- a separator: the part before it, and the parts of what stands behind it
  pub parts_more : (l : List ℕ) → length (first_part b l) < length l → parts b l ≡ first_part b l ∷ parts b (drop (suc (length (first_part b l))) l)
  parts_more =
      parts_by
      (λ l p ps. length p < length l → ps ≡ p ∷ parts b (drop (suc (length p)) l))
      (λ h. absurd (omega arith))
      (λ x l e h. refl)
      (λ x l e rec h. ap (extend x) (rec (omega arith)))

-- two parts have a separator between them
pub two_parts : (b : ℕ) (l : List ℕ) → 2 ≤ length (parts b l) → length (first_part b l) < length l
two_parts b l h = go (decided (ltb (length (first_part b l)) (length l)))
  where
    go : (ltb (length (first_part b l)) (length l) ≡ true) ⊎ (ltb (length (first_part b l)) (length l) ≡ false) → length (first_part b l) < length l
    go (inl t) = ltb-true (length (first_part b l)) (length l) t
    go (inr t) =
        let short : length (first_part b l) ≤ length l = first_le b l in
        let long : length l ≤ length (first_part b l) = ltb-false (length (first_part b l)) (length l) t in
        let one : length (parts b l) ≡ 1 = ap length (parts_one b l (omega arith)) in
        absurd (omega arith)

-- a search for the byte b passes the first part
search_length : (b : ℕ) (l : List ℕ) → position_or_len (λ (x : ℕ). eqb x b) l ≡ length (first_part b l)
search_length b =
    parts_by b
    (λ l p ps. position_or_len (λ (x : ℕ). eqb x b) l ≡ length p)
    refl
    (λ x l e. rw e)
    (λ x l e rec. rw (e, rec) (omega arith))

-- what a search found: the separator behind the first part
module _ (b : ℕ) (l : List ℕ) where
  abbrev pub searched : Option ℕ
  searched = position (λ (x : ℕ). eqb x b) l

  search_is : searched ≡ cond (ltb (length (first_part b l)) (length l)) (Some (length (first_part b l))) None
  search_is = rw (search_length b l)

  pub found : {n : ℕ} → searched ≡ Some n → (n ≡ length (first_part b l)) × (n < length l)
  found {n} e = go (ltb (length (first_part b l)) (length l)) refl
    where
      go : (t : Bool) → ltb (length (first_part b l)) (length l) ≡ t → (n ≡ length (first_part b l)) × (n < length l)
      go true t =
          let place : Some (length (first_part b l)) ≡ Some n = rw t at (sym search_is ∙ e) in
          let same : n ≡ length (first_part b l) = cc in
          let inside : length (first_part b l) < length l = ltb-true _ _ t in
          (same, omega arith)
      go false t = let none : None ≡ Some n = rw t at (sym search_is ∙ e) in (cc)

  -- or that there is none
  pub not_found : searched ≡ None → length (first_part b l) ≡ length l
  not_found e = go (ltb (length (first_part b l)) (length l)) refl
    where
      go : (t : Bool) → ltb (length (first_part b l)) (length l) ≡ t → length (first_part b l) ≡ length l
      go true t = let none : Some (length (first_part b l)) ≡ None = rw t at (sym search_is ∙ e) in (cc)
      go false t =
          let long : length l ≤ length (first_part b l) = ltb-false _ _ t in
          let short : length (first_part b l) ≤ length l = first_le b l in
          omega arith

-- where a search from an index on, in the part that is lent to it, found a separator
module _ (b : ℕ) (l : List ℕ) (from : ℕ) (inside : from ≤ length l) where
  abbrev pub lent : List ℕ
  lent = take (length l - from) (drop from l)

  pub lent_is : lent ≡ drop from l
  lent_is = part_to_end l (length l) from (omega arith)

  length_left : length (drop from l) ≡ length l - from
  length_left = length-drop from l

  module _ {n : ℕ} (e : searched b lent ≡ Some n) where
    pub place : (n ≡ length (first_part b (drop from l))) × (n < length (drop from l))
    place = found b (drop from l) (ap (searched b) (sym lent_is) ∙ e)

    pub found_place : n ≡ length (first_part b (drop from l))
    found_place = place.0

    pub found_inside : from + n < length l
    found_inside = let h : n < length (drop from l) = place.1 in omega (arith, length_left)

    pub found_part : take n (drop from l) ≡ first_part b (drop from l)
    found_part = ap (λ (k : ℕ). take k (drop from l)) found_place ∙ sym (first_take b (drop from l))

    pub found_more : parts b (drop from l) ≡ take n (drop from l) ∷ parts b (drop (from + n + 1) l)
    found_more =
        let p : List ℕ = first_part b (drop from l) in
        let h : n < length (drop from l) = place.1 in
        let next : from + suc (length p) ≡ from + n + 1 = omega (arith, found_place) in
        parts_more b (drop from l) (omega (arith, found_place))
        ∙ ap₂ (λ (q : List ℕ) (r : List ℕ). q ∷ parts b r) (sym found_part) (drop-drop (suc (length p)) from l ∙ ap (λ (k : ℕ). drop k l) next)

  pub lent_none : searched b lent ≡ None → length (first_part b (drop from l)) ≡ length (drop from l)
  lent_none e = not_found b (drop from l) (ap (searched b) (sym lent_is) ∙ e)

  pub found_end : searched b lent ≡ None → parts b (drop from l) ≡ drop from l ∷ []
  found_end e = parts_one b (drop from l) (lent_none e)
