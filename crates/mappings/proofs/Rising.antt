-- Elements of a list by their index, and lists of numbers that rise strictly.
use Prim.Native.Nat.{ℕ, zero, suc, ◌≤◌, ◌<◌, suc-le-suc}
use native.Mathlib.Nat.{not-suc-le-zero, le_of_suc-le-suc, lt_irrefl, zero-lt-suc}
use native.Mathlib.Omega.{arith}
use mathlib.Core.Path.{◌≡◌, refl, sym, subst}
use mathlib.Core.Logic.{◌⊎◌, inl, inr}
use mathlib.Core.Bool.{Bool, true, false}
use mathlib.Core.List.Memᴰ
use mathlib.Core.List.{List, [], ◌∷◌, Memᴰ}
use lib.Dec.{ltb}
use lib.ListN.{length, get_or}
use borrow.Author.Tests.{ltb-true, ltb-false}
use Rattle.base.specs.Lists.{add_if, keep, range}
use Rattle.base.proofs.Lists.{keep_mem, range_mem, decided}

module _ {A : Type 0} (d : A) where
  pub get_d_mem : (l : List A) (i : ℕ) → i < length l → Memᴰ (get_or l i d) l
  get_d_mem [] i h = absurd (not-suc-le-zero h)
  get_d_mem (x ∷ xs) zero h = Memᴰ.head refl
  get_d_mem (x ∷ xs) (suc i) h = Memᴰ.tail (get_d_mem xs i (le_of_suc-le-suc h))

  pub mem_get_d : {a : A} (l : List A) → Memᴰ a l → (i : ℕ) × (i < length l) × (get_or l i d ≡ a)
  mem_get_d [] m = absurd (Memᴰ.not-nil m)
  mem_get_d (x ∷ xs) (Memᴰ.head e) = (0, zero-lt-suc (length xs), sym e)
  mem_get_d (x ∷ xs) (Memᴰ.tail m) = let r = mem_get_d xs m in (suc r.0, suc-le-suc r.1, r.2)

-- each element is greater than those before it
abbrev pub Rises : List ℕ → Type 0
Rises l = (i j : ℕ) → i < j → j < length l → get_or l i 0 < get_or l j 0

rises_head : (x : ℕ) (l : List ℕ) → Rises (x ∷ l) → (y : ℕ) → Memᴰ y l → x < y
rises_head x l r y m = let p = mem_get_d 0 l m in subst (λ (z : ℕ). x < z) p.2 (r 0 (suc p.0) (zero-lt-suc p.0) (suc-le-suc p.1))

rises_tail : (x : ℕ) (l : List ℕ) → Rises (x ∷ l) → Rises l
rises_tail x l r i j h k = r (suc i) (suc j) (suc-le-suc h) (suc-le-suc k)

rises_cons : (x : ℕ) (l : List ℕ) → ((y : ℕ) → Memᴰ y l → x < y) → Rises l → Rises (x ∷ l)
rises_cons x l f r i zero h k = absurd (not-suc-le-zero h)
rises_cons x l f r zero (suc j) h k = f (get_or l j 0) (get_d_mem 0 l j (le_of_suc-le-suc k))
rises_cons x l f r (suc i) (suc j) h k = r i j (le_of_suc-le-suc h) (le_of_suc-le-suc k)

pub rises_range : (a n : ℕ) → Rises (range a n)
rises_range a zero = λ i j h k. absurd (not-suc-le-zero k)
rises_range a (suc n) = rises_cons a (range (suc a) n) (λ y m. (range_mem (suc a) n m).0) (rises_range (suc a) n)

pub rises_keep : (f : ℕ → Bool) (l : List ℕ) → Rises l → Rises (keep f l)
rises_keep f [] r = r
rises_keep f (x ∷ xs) r = go (f x) (rises_keep f xs (rises_tail x xs r))
  where
    go : (b : Bool) → Rises (keep f xs) → Rises (add_if b x (keep f xs))
    go true rec = rises_cons x (keep f xs) (λ y m. rises_head x xs r y (keep_mem f xs m).0) rec
    go false rec = rec

-- an element stands at one index only
pub rises_once : (l : List ℕ) → Rises l → (i j : ℕ) → i < length l → j < length l → get_or l i 0 ≡ get_or l j 0 → i ≡ j
rises_once l r i j h k e = go (decided (ltb i j)) (decided (ltb j i))
  where
    go : (ltb i j ≡ true) ⊎ (ltb i j ≡ false) → (ltb j i ≡ true) ⊎ (ltb j i ≡ false) → i ≡ j
    go (inl t) s = absurd (lt_irrefl (get_or l j 0) (subst (λ (z : ℕ). z < get_or l j 0) e (r i j (ltb-true i j t) k)))
    go (inr f) (inl t) = absurd (lt_irrefl (get_or l i 0) (subst (λ (z : ℕ). z < get_or l i 0) (sym e) (r j i (ltb-true j i t) h)))
    go (inr f) (inr g) = omega (arith, ltb-false i j f, ltb-false j i g)

-- elements order as their indices do
pub rises_order : (l : List ℕ) → Rises l → (i j : ℕ) → i < length l → get_or l i 0 ≤ get_or l j 0 → i ≤ j
rises_order l r i j h e = go (decided (ltb j i))
  where
    go : (ltb j i ≡ true) ⊎ (ltb j i ≡ false) → i ≤ j
    go (inl t) = absurd (omega (arith, r j i (ltb-true j i t) h))
    go (inr f) = ltb-false j i f
