-- Neighbouring k-mers by position: a run's k-mers are those from its first letter up to the last place where k letters are left.
use Prim.Native.Nat.{ℕ, zero, suc, ◌+◌, ◌-◌, ◌≤◌, ◌<◌}
use native.Mathlib.Omega.{arith}
use mathlib.Core.Path.{◌≡◌, refl, sym, ap, ◌∙◌}
use mathlib.Core.Bool.{Bool, true, false}
use mathlib.Core.List.{List, [], ◌∷◌, map}
use lib.Dec.{leb}
use lib.ListN.{length, get_or, take, drop, length-take, length-drop, length-map}
use lib.Seq.{drop-cons, take-take}
use borrow.Author.Tests.{leb-true, leb-false}
use Rattle.base.specs.Lists.{range, add_if}
use Rattle.kmers.specs.Letters.{value}
use Rattle.kmers.specs.Kmers.{code_of, kmers}
use Rattle.kmers.specs.Places.{code_at, entry_at, span}

-- the first k-mer of a span and the others
pub span_cons : (k : ℕ) (letters : List ℕ) (from to : ℕ) → from < to
    → span k letters from to ≡ entry_at k letters from ∷ span k letters (suc from) to
span_cons k letters from to h =
    let e : to - from ≡ suc (to - suc from) = omega arith in
    ap (λ (n : ℕ). map (entry_at k letters) (range from n)) e

pub span_none : (k : ℕ) (letters : List ℕ) (from to : ℕ) → to ≤ from → span k letters from to ≡ []
span_none k letters from to h =
    let e : to - from ≡ 0 = omega arith in
    ap (λ (n : ℕ). map (entry_at k letters) (range from n)) e

take_map : {A B : Type 0} (f : A → B) (n : ℕ) (l : List A) → take n (map f l) ≡ map f (take n l)
take_map f zero l = refl
take_map f (suc n) [] = refl
take_map f (suc n) (x ∷ xs) = ap (λ (r : List _). f x ∷ r) (take_map f n xs)

-- the k-mers of the l letters from `at` on
pub kmers_span : (k l at : ℕ) (letters : List ℕ) → 1 ≤ k → at + l ≤ length letters
    → kmers k at (map value (take l (drop at letters))) ≡ span k letters at (suc (at + l) - k)
unfolding kmers code_at
kmers_span k zero at letters pos h = sym (span_none k letters at (suc (at + 0) - k) (omega arith))
kmers_span k (suc l) at letters pos h =
    rw (drop-cons letters at 0 (omega arith)) (go (leb k (suc (length (map value more)))) refl (kmers_span k l (suc at) letters pos (omega arith)))
  where
    more : List ℕ
    more = take l (drop (suc at) letters)

    sized : length (map value more) ≡ l
    sized = simp (length-map, length-take, length-drop) (omega arith)

    whole : k ≤ suc l → take k (map value (get_or letters at 0 ∷ more)) ≡ map value (take k (drop at letters))
    whole j =
        take_map value k (get_or letters at 0 ∷ more)
        ∙ ap (λ (r : List ℕ). map value (take k (take (suc l) r))) (sym (drop-cons letters at 0 (omega arith)))
        ∙ ap (map value) (take-take k (suc l) (drop at letters) j)

    go : (b : Bool) → leb k (suc (length (map value more))) ≡ b → kmers k (suc at) (map value more) ≡ span k letters (suc at) (suc (suc at + l) - k)
        → add_if (leb k (suc (length (map value more)))) (record { code = code_of (take k (map value (get_or letters at 0 ∷ more))); position = at })
        (kmers k (suc at) (map value more))
        ≡ span k letters at (suc (at + suc l) - k)
    go true e rec =
        let j : k ≤ suc l = rw sized at (leb-true k (suc (length (map value more))) e) in
        let n : suc (suc at + l) - k ≡ suc (at + suc l) - k = omega arith in
        rw (e, whole j, rec, n) (sym (span_cons k letters at (suc (at + suc l) - k) (omega arith)))
    go false e rec =
        let j : suc l < k = rw sized at (leb-false k (suc (length (map value more))) e) in
        rw (e, rec, span_none k letters (suc at) (suc (suc at + l) - k) (omega arith)) (sym (span_none k letters at (suc (at + suc l) - k) (omega arith)))
