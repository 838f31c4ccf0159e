-- Laws of counts: of a list and one more word at either end, of joined lists, of the words that pass a test, and of those that occur.
use Prim.Native.Nat.{ℕ, suc, ◌+◌, ◌*◌, ◌≤◌, ◌<◌, zero-le}
use native.Mathlib.Omega.{arith}
use mathlib.Core.Path.{◌≡◌, refl, sym, ap, ◌∙◌}
use mathlib.Core.Logic.{◌⊎◌, inl, inr, ◌≢◌}
use mathlib.Core.Bool.{Bool, true, false}
use mathlib.Core.List.Memᴰ
use mathlib.Core.List.{List, [], ◌∷◌, ◌++◌, Memᴰ}
use lib.Dec.{eqb}
use lib.ListN.{length, get_or, take, drop, take-append-drop}
use lib.Seq.{take-suc}
use borrow.Author.Tests.{eq-eqb, ne_eqb}
use Rattle.base.specs.Lists.{bit, add_if, keep}
use Rattle.base.specs.Counts.{occ}
use Rattle.base.proofs.Lists.{bit_le_one, eq_or_ne}

pub occ_append : (x : ℕ) (l r : List ℕ) → occ x (l ++ r) ≡ occ x l + occ x r
occ_append x [] r = omega arith
occ_append x (y ∷ ys) r = let e : occ x (ys ++ r) ≡ occ x ys + occ x r = occ_append x ys r in omega arith

-- a word counts once for itself
pub bit_same : (x : ℕ) → bit (eqb x x) ≡ 1
bit_same x = ap bit (eq-eqb x x refl)

pub bit_other : (x y : ℕ) → (x ≡ y → ⊥) → bit (eqb x y) ≡ 0
bit_other x y h = ap bit (ne_eqb x y h)

-- a list is its first part and the rest
pub occ_split : (x n : ℕ) (l : List ℕ) → occ x (take n l) + occ x (drop n l) ≡ occ x l
occ_split x n l = sym (occ_append x (take n l) (drop n l)) ∙ ap (occ x) (take-append-drop n l)

pub occ_le_length : (x : ℕ) (l : List ℕ) → occ x l ≤ length l
occ_le_length x [] = zero-le
occ_le_length x (y ∷ ys) =
    let e : occ x ys ≤ length ys = occ_le_length x ys in
    let b : bit (eqb x y) ≤ 1 = bit_le_one (eqb x y) in
    omega arith

-- a word occurs as often as before among those that pass a test, or not at all
occ_add_if : (x : ℕ) (b : Bool) (y : ℕ) (l : List ℕ) → occ x (add_if b y l) ≡ bit b * bit (eqb x y) + occ x l
occ_add_if x true y l = omega arith
occ_add_if x false y l = omega arith

pub occ_keep : (f : ℕ → Bool) (x : ℕ) (l : List ℕ) → occ x (keep f l) ≡ bit (f x) * occ x l
occ_keep f x [] = omega arith
occ_keep f x (y ∷ ys) =
    let rest : occ x (keep f ys) ≡ bit (f x) * occ x ys = occ_keep f x ys in
    let here : bit (f y) * bit (eqb x y) ≡ bit (f x) * bit (eqb x y) = same (eq_or_ne x y) in
    occ_add_if x (f y) y (keep f ys) ∙ omega arith
  where
    same : (x ≡ y) ⊎ (x ≢ y) → bit (f y) * bit (eqb x y) ≡ bit (f x) * bit (eqb x y)
    same (inl e) = rw e
    same (inr n) = rw (bit_other x y n) (omega arith)

-- counting up to an index, one word further
pub occ_take_suc : (x i : ℕ) (l : List ℕ) → i < length l → occ x (take (suc i) l) ≡ occ x (take i l) + bit (eqb x (get_or l i 0))
occ_take_suc x i l h =
    ap (occ x) (take-suc l i 0 h)
    ∙ occ_append x (take i l) (get_or l i 0 ∷ [])
    ∙ (let e : bit (eqb x (get_or l i 0)) + 0 ≡ bit (eqb x (get_or l i 0)) = omega arith in ap (λ (n : ℕ). occ x (take i l) + n) e)

pub occ_mem : (x : ℕ) (l : List ℕ) → Memᴰ x l → 1 ≤ occ x l
occ_mem x [] m = absurd (Memᴰ.not-nil m)
occ_mem x (y ∷ ys) m = go (λ m'. occ_mem x ys m') (Memᴰ.cases_cons m)
  where
    go : (Memᴰ x ys → 1 ≤ occ x ys) → (x ≡ y) ⊎ Memᴰ x ys → 1 ≤ occ x (y ∷ ys)
    go rec (inl e) = let b : bit (eqb x y) ≡ 1 = ap bit (eq-eqb x y e) in omega arith
    go rec (inr m') = let r : 1 ≤ occ x ys = rec m' in omega arith

pub mem_occ : (x : ℕ) (l : List ℕ) → 1 ≤ occ x l → Memᴰ x l
mem_occ x [] h = absurd (omega arith)
mem_occ x (y ∷ ys) h = go (λ h'. mem_occ x ys h') (eq_or_ne x y)
  where
    go : (1 ≤ occ x ys → Memᴰ x ys) → (x ≡ y) ⊎ (x ≡ y → ⊥) → Memᴰ x (y ∷ ys)
    go rec (inl e) = Memᴰ.head e
    go rec (inr n) = let b : bit (eqb x y) ≡ 0 = bit_other x y n in Memᴰ.tail (rec (omega arith))
