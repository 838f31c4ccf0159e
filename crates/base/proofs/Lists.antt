-- Laws of the list vocabulary: tests joined by `&&` and `||`, `every`, `keep` and `range`.
use Prim.Native.Nat.{ℕ, zero, suc, ◌+◌, ◌≤◌, ◌<◌, zero-le, suc-le-suc}
use native.Mathlib.Nat.{le_refl, le_trans, le-suc}
use native.Mathlib.Omega.{arith}
use mathlib.Core.Path.{◌≡◌, refl, sym, ap, ◌∙◌, subst}
use mathlib.Core.Logic.{◌⊎◌, inl, inr, ◌≢◌}
use borrow.Author.Tests.{eqb-true, eqb-false}
use lib.Dec.{eqb}
use mathlib.Core.Bool.{Bool, true, false, ◌&&◌, ◌||◌, true≢false, false≢true}
use mathlib.Core.List.Memᴰ
use mathlib.Core.List.{List, [], ◌∷◌, ◌++◌, Memᴰ, map}
use lib.ListN.{length, get_or}
use Rattle.base.specs.Lists.{bit, add_if, keep, every, range, sum}

-- ---- tests

pub and_both : {b c : Bool} → b ≡ true → c ≡ true → (b && c) ≡ true
and_both p q = rw (p, q)

pub and_left : (b c : Bool) → (b && c) ≡ true → b ≡ true
and_left true c h = refl
and_left false c h = h

pub and_right : (b c : Bool) → (b && c) ≡ true → c ≡ true
and_right true c h = h
and_right false c h = absurd (false≢true h)

-- a test passes or fails
pub decided : (b : Bool) → (b ≡ true) ⊎ (b ≡ false)
decided true = inl refl
decided false = inr refl

pub clash {ℓ} : {X : Type ℓ} {b : Bool} → b ≡ true → b ≡ false → X
clash p q = absurd (true≢false (sym p ∙ q))

-- two tests that pass together are equal
pub same_test : (b c : Bool) → (b ≡ true → c ≡ true) → (c ≡ true → b ≡ true) → b ≡ c
same_test true c f g = sym (f refl)
same_test false true f g = g refl
same_test false false f g = refl

pub bit_le_one : (b : Bool) → bit b ≤ 1
bit_le_one true = le_refl 1
bit_le_one false = zero-le

pub or_left : {b : Bool} (c : Bool) → b ≡ true → (b || c) ≡ true
or_left c p = rw p

pub or_right : (b : Bool) {c : Bool} → c ≡ true → (b || c) ≡ true
or_right true p = refl
or_right false p = p

pub or_neither : (b c : Bool) → (b || c) ≡ false → (b ≡ false) × (c ≡ false)
or_neither true c h = absurd (true≢false h)
or_neither false c h = (refl, h)

pub eq_or_ne : (x y : ℕ) → (x ≡ y) ⊎ (x ≢ y)
eq_or_ne x y = go (eqb x y) refl
  where
    go : (b : Bool) → eqb x y ≡ b → (x ≡ y) ⊎ (x ≢ y)
    go true e = inl (eqb-true x y e)
    go false e = inr (eqb-false x y e)

-- ---- every, keep

add_if_append : {A : Type 0} (b : Bool) (x : A) (l r : List A) → add_if b x (l ++ r) ≡ add_if b x l ++ r
add_if_append true x l r = refl
add_if_append false x l r = refl

length_add_if : {A : Type 0} (b : Bool) (x : A) (l : List A) → length (add_if b x l) ≤ suc (length l)
length_add_if true x l = le_refl (suc (length l))
length_add_if false x l = le-suc (length l)

mem_add_if : {A : Type 0} (b : Bool) (x : A) {a : A} {l : List A} → Memᴰ a l → Memᴰ a (add_if b x l)
mem_add_if true x m = Memᴰ.tail m
mem_add_if false x m = m

add_if_mem : {A : Type 0} (b : Bool) (x : A) {a : A} (l : List A) → Memᴰ a (add_if b x l) → ((a ≡ x) × (b ≡ true)) ⊎ Memᴰ a l
add_if_mem true x {a} l m = go (Memᴰ.cases_cons m)
  where
    go : (a ≡ x) ⊎ Memᴰ a l → ((a ≡ x) × (true ≡ true)) ⊎ Memᴰ a l
    go (inl e) = inl (e, refl)
    go (inr m') = inr m'
add_if_mem false x l m = inr m

module _ {A : Type 0} (f : A → Bool) where
  pub every_mem : {a : A} {l : List A} → every f l ≡ true → Memᴰ a l → f a ≡ true
  every_mem {a} {l = []} h m = absurd (Memᴰ.not-nil m)
  every_mem {a} {l = x ∷ xs} h (Memᴰ.head e) = ap f e ∙ and_left (f x) (every f xs) h
  every_mem {a} {l = x ∷ xs} h (Memᴰ.tail m) = every_mem (and_right (f x) (every f xs) h) m

  pub mem_every : (l : List A) → ((a : A) → Memᴰ a l → f a ≡ true) → every f l ≡ true
  mem_every [] h = refl
  mem_every (x ∷ xs) h = and_both (h x (Memᴰ.head refl)) (mem_every xs (λ a m. h a (Memᴰ.tail m)))

  pub keep_append : (l r : List A) → keep f (l ++ r) ≡ keep f l ++ keep f r
  keep_append [] r = refl
  keep_append (x ∷ xs) r = ap (add_if (f x) x) (keep_append xs r) ∙ add_if_append (f x) x (keep f xs) (keep f r)

  pub keep_mem : {a : A} (l : List A) → Memᴰ a (keep f l) → Memᴰ a l × (f a ≡ true)
  keep_mem [] m = absurd (Memᴰ.not-nil m)
  keep_mem {a} (x ∷ xs) m = go (keep_mem xs) (add_if_mem (f x) x (keep f xs) m)
    where
      go : (Memᴰ a (keep f xs) → Memᴰ a xs × (f a ≡ true)) → ((a ≡ x) × (f x ≡ true)) ⊎ Memᴰ a (keep f xs)
          → Memᴰ a (x ∷ xs) × (f a ≡ true)
      go rec (inl e) = (Memᴰ.head e.0, ap f e.0 ∙ e.1)
      go rec (inr m') = let r = rec m' in (Memᴰ.tail r.0, r.1)

  pub mem_keep : {a : A} {l : List A} → Memᴰ a l → f a ≡ true → Memᴰ a (keep f l)
  mem_keep {a} {l = []} m e = absurd (Memᴰ.not-nil m)
  mem_keep {a} {l = x ∷ xs} (Memᴰ.head p) e =
      subst (λ (b : Bool). Memᴰ a (add_if b x (keep f xs))) (sym (ap f (sym p) ∙ e)) (Memᴰ.head p)
  mem_keep {a} {l = x ∷ xs} (Memᴰ.tail m) e = mem_add_if (f x) x (mem_keep m e)

  pub length_keep : (l : List A) → length (keep f l) ≤ length l
  length_keep [] = zero-le
  length_keep (x ∷ xs) = le_trans (length_add_if (f x) x (keep f xs)) (suc-le-suc (length_keep xs))

-- ---- range

pub length_range : (a n : ℕ) → length (range a n) ≡ n
length_range a zero = refl
length_range a (suc n) = ap suc (length_range (suc a) n)

pub mem_range : (a n : ℕ) {x : ℕ} → a ≤ x → x < a + n → Memᴰ x (range a n)
mem_range a zero p q = absurd (omega arith)
mem_range a (suc n) {x} p q = go (λ h. mem_range (suc a) n h (omega arith)) (eq_or_ne x a)
  where
    go : (suc a ≤ x → Memᴰ x (range (suc a) n)) → (x ≡ a) ⊎ (x ≢ a) → Memᴰ x (range a (suc n))
    go rec (inl e) = Memᴰ.head e
    go rec (inr ne) = Memᴰ.tail (rec (omega arith))

pub range_mem : (a n : ℕ) {x : ℕ} → Memᴰ x (range a n) → (a ≤ x) × (x < a + n)
range_mem a zero m = absurd (Memᴰ.not-nil m)
range_mem a (suc n) {x} m = go (λ m'. range_mem (suc a) n m') (Memᴰ.cases_cons m)
  where
    go : (Memᴰ x (range (suc a) n) → (suc a ≤ x) × (x < suc a + n)) → (x ≡ a) ⊎ Memᴰ x (range (suc a) n)
        → (a ≤ x) × (x < a + suc n)
    go rec (inl e) = omega arith
    go rec (inr m') = let r = rec m' in (omega arith)

pub get_d_range : (a n i d : ℕ) → i < n → get_or (range a n) i d ≡ a + i
get_d_range a zero i d h = absurd (omega arith)
get_d_range a (suc n) zero d h = omega arith
get_d_range a (suc n) (suc i) d h = let r : get_or (range (suc a) n) i d ≡ suc a + i = get_d_range (suc a) n i d (omega arith) in r ∙ omega arith

pub map_append : {A B : Type 0} (f : A → B) (l r : List A) → map f (l ++ r) ≡ map f l ++ map f r
map_append f [] r = refl
map_append f (x ∷ xs) r = ap (λ (l : List _). f x ∷ l) (map_append f xs r)

pub sum_append : (l r : List ℕ) → sum (l ++ r) ≡ sum l + sum r
sum_append [] r = omega arith
sum_append (x ∷ xs) r = let e : sum (xs ++ r) ≡ sum xs + sum r = sum_append xs r in omega arith

-- an element of a mapped list
pub get_d_map : (f : ℕ → ℕ) (l : List ℕ) (i : ℕ) → i < length l → get_or (map f l) i 0 ≡ f (get_or l i 0)
get_d_map f [] i h = absurd (omega arith)
get_d_map f (x ∷ xs) zero h = refl
get_d_map f (x ∷ xs) (suc i) h = get_d_map f xs i (omega arith)
