-- m of one entry more, at either end of an interval; m over any list of codes that covers the pattern's; its bounds.
use Prim.Native.Nat.{ℕ, suc, ◌+◌, ◌-◌, ◌*◌, ◌≤◌, ◌<◌, min, suc-le-suc}
use native.Mathlib.Nat.{le_of_eq, min_comm}
use native.Mathlib.Omega.{arith}
use mathlib.Core.Path.{◌≡◌, refl, sym, ap, ap₂, ◌∙◌}
use mathlib.Core.Logic.{◌⊎◌, inl, inr, ◌≢◌}
use mathlib.Core.Bool.{Bool, true, false}
use mathlib.Core.List.{List, [], ◌∷◌, ◌++◌, map, Memᴰ}
use lib.Dec.{eqb, ltb, leb}
use lib.ListN.{length, get_or, take, drop}
use lib.Seq.{slice-cons, length-slice, length-take-le, take-suc, drop-append-le}
use borrow.Author.Tests.{le-ltb, ltb-true, ltb-false, eq-eqb, eqb-true, eqb-false}
use Rattle.base.specs.Lists.{bit, add_if, sum}
use Rattle.base.specs.Counts.{occ, distinct}
use Rattle.base.proofs.Lists.{eq_or_ne, bit_le_one}
use Rattle.base.proofs.Counts.{occ_append, occ_mem, bit_other, bit_same}
use Rattle.mappings.specs.Score.{interval, shared}

-- ---- the sum over a list of codes

-- the sum over these codes of the smaller of the counts in p and in s
abbrev pub shared_over : List ℕ → List ℕ → List ℕ → ℕ
shared_over l p s = sum (map (λ (y : ℕ). min (occ y p) (occ y s)) l)

-- different codes, with each code of p among them
pub record Covers (l p : List ℕ) : Type 0 where
  pub once : (y : ℕ) → occ y l ≤ 1
  pub whole : (y : ℕ) → 1 ≤ occ y p → 1 ≤ occ y l

-- the list s' has one x more than s, wherever it stands
abbrev pub OneMore : ℕ → List ℕ → List ℕ → Type 0
OneMore x s s' = (y : ℕ) → occ y s' ≡ bit (eqb y x) + occ y s

-- the smaller of n and c grows by one with c while c is below n
min_one_more : (n c : ℕ) → min n (1 + c) ≡ bit (ltb c n) + min n c
min_one_more n c = go (ltb c n) refl
  where
    go : (b : Bool) → ltb c n ≡ b → min n (1 + c) ≡ bit b + min n c
    go true e = let h : c < n = ltb-true c n e in omega arith
    go false e = let h : n ≤ c = ltb-false c n e in omega arith

-- at one code: the smaller count grows where the code is x and p has more of it than s
code_one_more : (p s s' : List ℕ) (x y : ℕ) → OneMore x s s'
    → min (occ y p) (occ y s') ≡ bit (eqb x y) * bit (ltb (occ x s) (occ x p)) + min (occ y p) (occ y s)
code_one_more p s s' x y h = go (eq_or_ne x y)
  where
    go : (x ≡ y) ⊎ (x ≢ y) → min (occ y p) (occ y s') ≡ bit (eqb x y) * bit (ltb (occ x s) (occ x p)) + min (occ y p) (occ y s)
    go (inl e) =
        rw (← e)
        (rw (h x, bit_same x)
        (let r : min (occ x p) (1 + occ x s) ≡ bit (ltb (occ x s) (occ x p)) + min (occ x p) (occ x s) = min_one_more (occ x p) (occ x s) in omega arith))
    go (inr n) = rw (h y, bit_other x y n, bit_other y x (λ e. n (sym e))) (omega arith)

over_one_more : (l p s s' : List ℕ) (x : ℕ) → OneMore x s s' → shared_over l p s' ≡ occ x l * bit (ltb (occ x s) (occ x p)) + shared_over l p s
over_one_more [] p s s' x h = omega arith
over_one_more (y ∷ ys) p s s' x h =
    let e : min (occ y p) (occ y s') ≡ bit (eqb x y) * bit (ltb (occ x s) (occ x p)) + min (occ y p) (occ y s) = code_one_more p s s' x y h in
    let r : shared_over ys p s' ≡ occ x ys * bit (ltb (occ x s) (occ x p)) + shared_over ys p s = over_one_more ys p s s' x h in
    omega arith

-- ---- m by one entry more

-- the codes of p, each once
occ_distinct : (y : ℕ) (p : List ℕ) → occ y (distinct p) ≡ min 1 (occ y p)
occ_distinct y [] = refl
occ_distinct y (z ∷ zs) = go (occ_distinct y zs) (eq_or_ne y z) (eqb (occ z zs) 0) refl
  where
    go : occ y (distinct zs) ≡ min 1 (occ y zs) → (y ≡ z) ⊎ (y ≢ z) → (b : Bool) → eqb (occ z zs) 0 ≡ b
        → occ y (add_if b z (distinct zs)) ≡ min 1 (bit (eqb y z) + occ y zs)
    go rec (inl e) true t =
        let same : bit (eqb y z) ≡ 1 = ap bit (eq-eqb y z e) in
        let gone : occ y zs ≡ 0 = ap (λ (x : ℕ). occ x zs) e ∙ eqb-true (occ z zs) 0 t in
        omega arith
    go rec (inl e) false t =
        let same : bit (eqb y z) ≡ 1 = ap bit (eq-eqb y z e) in
        let later : occ y zs ≢ 0 = λ none. eqb-false (occ z zs) 0 t (ap (λ (x : ℕ). occ x zs) (sym e) ∙ none) in
        omega arith
    go rec (inr n) true t = let other : bit (eqb y z) ≡ 0 = bit_other y z n in omega arith
    go rec (inr n) false t = let other : bit (eqb y z) ≡ 0 = bit_other y z n in omega arith

covers_distinct : (p : List ℕ) → Covers (distinct p) p
covers_distinct p = record {
  once = λ y. (let e : occ y (distinct p) ≡ min 1 (occ y p) = occ_distinct y p in omega arith);
  whole = λ y h. (let e : occ y (distinct p) ≡ min 1 (occ y p) = occ_distinct y p in omega arith);
}

covered_one_more : (l p s s' : List ℕ) (x : ℕ) → Covers l p → OneMore x s s'
    → shared_over l p s' ≡ bit (ltb (occ x s) (occ x p)) + shared_over l p s
covered_one_more l p s s' x c h = over_one_more l p s s' x h ∙ ap (λ (n : ℕ). n + shared_over l p s) (go (ltb (occ x s) (occ x p)) refl)
  where
    go : (b : Bool) → ltb (occ x s) (occ x p) ≡ b → occ x l * bit b ≡ bit b
    go true e = let less : occ x s < occ x p = ltb-true (occ x s) (occ x p) e in omega (arith, c.once x, c.whole x (omega arith))
    go false e = omega arith

shared_one_more : (p s s' : List ℕ) (x : ℕ) → OneMore x s s' → shared p s' ≡ bit (ltb (occ x s) (occ x p)) + shared p s
unfolding shared
shared_one_more p s s' x h = covered_one_more (distinct p) p s s' x (covers_distinct p) h

shared_cons : (p : List ℕ) (x : ℕ) (s : List ℕ) → shared p (x ∷ s) ≡ bit (ltb (occ x s) (occ x p)) + shared p s
shared_cons p x s = shared_one_more p s (x ∷ s) x (λ y. refl)

-- a code that is not in p adds nothing
pub shared_foreign : (p s s' : List ℕ) (x : ℕ) → occ x p ≡ 0 → OneMore x s s' → shared p s' ≡ shared p s
shared_foreign p s s' x e h =
    shared_one_more p s s' x h
    ∙ rw (le-ltb (occ x s) (occ x p) (omega arith)) (omega arith)

over_nil : (l p : List ℕ) → shared_over l p [] ≡ 0
over_nil [] p = refl
over_nil (y ∷ ys) p = let r : shared_over ys p [] ≡ 0 = over_nil ys p in omega arith

pub shared_nil : (p : List ℕ) → shared p [] ≡ 0
unfolding shared
shared_nil p = over_nil (distinct p) p

-- the sum over any different codes that cover p's is m: so it is the sum over all codes
pub shared_over_lem : (l p s : List ℕ) → Covers l p → shared_over l p s ≡ shared p s
shared_over_lem l p [] c = over_nil l p ∙ sym (shared_nil p)
shared_over_lem l p (x ∷ s) c =
    covered_one_more l p s (x ∷ s) x c (λ y. refl)
    ∙ ap (λ (n : ℕ). bit (ltb (occ x s) (occ x p)) + n) (shared_over_lem l p s c)
    ∙ sym (shared_cons p x s)

-- ---- what m depends on, and its bounds

sum_same : (f g : ℕ → ℕ) (l : List ℕ) → ((y : ℕ) → Memᴰ y l → f y ≡ g y) → sum (map f l) ≡ sum (map g l)
sum_same f g [] h = refl
sum_same f g (x ∷ xs) h = ap₂ ◌+◌ (h x (Memᴰ.head refl)) (sum_same f g xs (λ y m. h y (Memᴰ.tail m)))

-- m depends only on how often each code of p occurs
pub shared_same : (p s s' : List ℕ) → ((y : ℕ) → 1 ≤ occ y p → occ y s ≡ occ y s') → shared p s ≡ shared p s'
unfolding shared
shared_same p s s' h =
    sum_same (λ y. min (occ y p) (occ y s)) (λ y. min (occ y p) (occ y s')) (distinct p)
    (λ y m. ap (min (occ y p))
    (h y (let e : 1 ≤ occ y (distinct p) = occ_mem y (distinct p) m in let f : occ y (distinct p) ≡ min 1 (occ y p) = occ_distinct y p in omega arith)))

shared_comm : (p s : List ℕ) → shared p s ≡ shared s p
shared_comm p s =
    sym (shared_over_lem (distinct (p ++ s)) p s left)
    ∙ sum_same (λ y. min (occ y p) (occ y s)) (λ y. min (occ y s) (occ y p)) (distinct (p ++ s)) (λ y m. min_comm (occ y p) (occ y s))
    ∙ shared_over_lem (distinct (p ++ s)) s p right
  where
    both : Covers (distinct (p ++ s)) (p ++ s)
    both = covers_distinct (p ++ s)

    left : Covers (distinct (p ++ s)) p
    left = record { once = both.once; whole = λ y h. both.whole y (let e : occ y (p ++ s) ≡ occ y p + occ y s = occ_append y p s in omega arith) }

    right : Covers (distinct (p ++ s)) s
    right = record { once = both.once; whole = λ y h. both.whole y (let e : occ y (p ++ s) ≡ occ y p + occ y s = occ_append y p s in omega arith) }

pub shared_le_length : (p s : List ℕ) → shared p s ≤ length s
shared_le_length p [] = le_of_eq (shared_nil p)
shared_le_length p (x ∷ s) =
    let e : shared p (x ∷ s) ≡ bit (ltb (occ x s) (occ x p)) + shared p s = shared_cons p x s in
    let b : bit (ltb (occ x s) (occ x p)) ≤ 1 = bit_le_one (ltb (occ x s) (occ x p)) in
    let r : shared p s ≤ length s = shared_le_length p s in
    omega arith

pub shared_le_pattern : (p s : List ℕ) → shared p s ≤ length p
shared_le_pattern p s = rw (shared_comm p s) (shared_le_length s p)

-- ---- intervals with one end moved out

pub length_interval : (t : List ℕ) (a b : ℕ) → b < length t → length (interval t a b) ≡ suc b - a
unfolding interval
length_interval t a b h = length-slice a (suc b) t h

interval_left : (t : List ℕ) (a b : ℕ) → a ≤ b → b < length t → interval t a b ≡ get_or t a 0 ∷ interval t (suc a) b
unfolding interval
interval_left t a b h k = slice-cons a (suc b) t 0 (suc-le-suc h) k

interval_right : (t : List ℕ) (a b : ℕ) → a ≤ suc b → suc b < length t → interval t a (suc b) ≡ interval t a b ++ get_or t (suc b) 0 ∷ []
unfolding interval
interval_right t a b h k =
    ap (drop a) (take-suc t (suc b) 0 k)
    ∙ drop-append-le a (take (suc b) t) (get_or t (suc b) 0 ∷ []) (rw (length-take-le (suc b) t (omega arith)) h)

pub more_left : (t : List ℕ) (a b : ℕ) → a ≤ b → b < length t → OneMore (get_or t a 0) (interval t (suc a) b) (interval t a b)
more_left t a b h k y = ap (occ y) (interval_left t a b h k)

pub more_right : (t : List ℕ) (a b : ℕ) → a ≤ suc b → suc b < length t → OneMore (get_or t (suc b) 0) (interval t a b) (interval t a (suc b))
more_right t a b h k y =
    ap (occ y) (interval_right t a b h k)
    ∙ occ_append y (interval t a b) (get_or t (suc b) 0 ∷ [])
    ∙ omega arith

shared_left : (p t : List ℕ) (a b : ℕ) → a ≤ b → b < length t
    → shared p (interval t a b) ≡ bit (ltb (occ (get_or t a 0) (interval t (suc a) b)) (occ (get_or t a 0) p)) + shared p (interval t (suc a) b)
shared_left p t a b h k = shared_one_more p (interval t (suc a) b) (interval t a b) (get_or t a 0) (more_left t a b h k)

shared_right : (p t : List ℕ) (a b : ℕ) → a ≤ suc b → suc b < length t
    → shared p (interval t a (suc b)) ≡ bit (ltb (occ (get_or t (suc b) 0) (interval t a b)) (occ (get_or t (suc b) 0) p)) + shared p (interval t a b)
shared_right p t a b h k = shared_one_more p (interval t a b) (interval t a (suc b)) (get_or t (suc b) 0) (more_right t a b h k)

-- the same by the whole interval: m grows exactly where the new end is reasonable
pub shared_left_end : (p t : List ℕ) (a b : ℕ) → a ≤ b → b < length t
    → shared p (interval t a b) ≡ bit (leb (occ (get_or t a 0) (interval t a b)) (occ (get_or t a 0) p)) + shared p (interval t (suc a) b)
shared_left_end p t a b h k =
    let e : occ (get_or t a 0) (interval t a b) ≡ suc (occ (get_or t a 0) (interval t (suc a) b)) = more_left t a b h k (get_or t a 0)
    ∙ rw (bit_same (get_or t a 0)) (omega arith) in
    shared_left p t a b h k ∙ rw e

pub shared_right_end : (p t : List ℕ) (a b : ℕ) → a ≤ suc b → suc b < length t
    → shared p (interval t a (suc b)) ≡ bit (leb (occ (get_or t (suc b) 0) (interval t a (suc b))) (occ (get_or t (suc b) 0) p)) + shared p (interval t a b)
shared_right_end p t a b h k =
    let e : occ (get_or t (suc b) 0) (interval t a (suc b)) ≡ suc (occ (get_or t (suc b) 0) (interval t a b)) = more_right t a b h k (get_or t (suc b) 0)
    ∙ rw (bit_same (get_or t (suc b) 0)) (omega arith) in
    shared_right p t a b h k ∙ rw e
