-- Lists in reverse order: their elements by index, and their parts between the elements that pass a test.
use Prim.Native.Nat.{ℕ, suc, ◌-◌, ◌<◌}
use native.Mathlib.Omega.{arith}
use mathlib.Core.Path.{◌≡◌, refl, sym, ap, ◌∙◌}
use mathlib.Core.Logic.{◌⊎◌, inl, inr, ◌≢◌}
use mathlib.Core.Bool.{Bool, true, false, cond}
use mathlib.Core.List.{List, [], ◌∷◌, ◌++◌, map, reverse, reverse_aux, reverse-cons}
use lib.ListN.{length, get_or, length-reverse, get_or-append}
use lib.Seq.{get_or_at}
use Rattle.base.specs.Lists.{extend, parts_between}
use Rattle.base.proofs.Lists.{eq_or_ne}

-- the element at an index of the reversed list stands as far from the list's end
pub get_d_reverse : (l : List ℕ) (i : ℕ) → i < length l → get_or (reverse l) i 0 ≡ get_or l (length l - 1 - i) 0
get_d_reverse [] i h = absurd (omega arith)
get_d_reverse (x ∷ l) i h = ap (λ (r : List ℕ). get_or r i 0) (reverse-cons x l) ∙ go (get_d_reverse l i) (eq_or_ne i (length l))
  where
    back : length (reverse l) ≡ length l
    back = length-reverse l

    go : (i < length l → get_or (reverse l) i 0 ≡ get_or l (length l - 1 - i) 0) → (i ≡ length l) ⊎ (i ≢ length l)
        → get_or (reverse l ++ x ∷ []) i 0 ≡ get_or (x ∷ l) (suc (length l) - 1 - i) 0
    go rec (inl e) =
        let first : suc (length l) - 1 - i ≡ 0 = omega arith in
        rw first (get_or_at (reverse l) x [] 0 i (back ∙ sym e))
    go rec (inr n) =
        let later : suc (length l) - 1 - i ≡ suc (length l - 1 - i) = omega arith in
        rw later (get_or-append (reverse l) (x ∷ []) 0 i (rw back (omega arith)) ∙ rec (omega arith))

module _ {A : Type 0} where
  -- a list with a first element
  data Some : List (List A) → Type 0 where
    some : (p : List A) (ps : List (List A)) → Some (p ∷ ps)

  -- parts in reverse order, each reversed, in front of others: the first part is joined to the first of the others
  abbrev joined : List (List A) → List (List A) → List (List A)
  joined [] qs = qs
  joined (p ∷ ps) [] = []
  joined (p ∷ ps) (q ∷ qs) = reverse_aux (map reverse ps) (reverse_aux p q ∷ qs)

  module _ (f : A → Bool) where
    -- there is a part, if an empty one
    parts_some : (l : List A) → Some (parts_between f l)
    parts_some [] = some [] []
    parts_some (x ∷ l) = go (f x) (parts_some l)
      where
        go : (b : Bool) {ps : List (List A)} → Some ps → Some (cond b ([] ∷ ps) (extend x ps))
        go true {ps} s = some [] ps
        go false (some p ps) = some (x ∷ p) ps

    -- an element moves from the front of the one list to the front of the other
    moves : (b : Bool) (x : A) {ps qs : List (List A)} → Some ps → Some qs
        → joined ps (cond b ([] ∷ qs) (extend x qs)) ≡ joined (cond b ([] ∷ ps) (extend x ps)) qs
    moves true x (some p ps) (some q qs) = refl
    moves false x (some p ps) (some q qs) = refl

    parts_aux : (l r : List A) → parts_between f (reverse_aux l r) ≡ joined (parts_between f l) (parts_between f r)
    parts_aux [] r = go (parts_some r)
      where
        go : {qs : List (List A)} → Some qs → qs ≡ joined ([] ∷ []) qs
        go (some q qs) = refl
    parts_aux (x ∷ l) r = parts_aux l (x ∷ r) ∙ moves (f x) x (parts_some l) (parts_some r)

    -- the parts of the reversed list are the parts in reverse order, each reversed
    pub parts_reverse : (l : List A) → parts_between f (reverse l) ≡ reverse (map reverse (parts_between f l))
    parts_reverse l = parts_aux l [] ∙ go (parts_some l)
      where
        go : {ps : List (List A)} → Some ps → joined ps ([] ∷ []) ≡ reverse (map reverse ps)
        go (some p ps) = refl
