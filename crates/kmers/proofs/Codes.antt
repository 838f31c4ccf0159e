-- Codes by position: a code is below 4^k, and the next one comes of it by one more digit behind and the first one cut off.
use Prim.Native.Nat.{ℕ, zero, suc, ◌+◌, ◌*◌, ◌-◌, ◌/◌, ◌%◌, ◌^◌, ◌≤◌, ◌<◌}
use native.Mathlib.Nat.{pow-succ', lt_of_lt_of_le, mul-le-mul_right, one-mul, mod-lt, mod-eq_of_lt, div-add-mod, add-mul-mod_self_left}
use native.Mathlib.Nat.{one-le-pow, lt_of_le_of_lt, pow-le-pow_right}
use native.Mathlib.Omega.{arith}
use mathlib.Core.Path.{◌≡◌, refl, sym, ap, ◌∙◌, subst}
use mathlib.Core.Bool.{Bool, true, false, cond}
use mathlib.Core.List.{List, [], ◌∷◌, ◌++◌, map}
use lib.Dec.{eqb, lit<}
use lib.Bits.{bit_and, and_mask}
use lib.ListN.{length, get_or, take, drop, length-map, length-drop}
use lib.Seq.{length-take-le, get_or-take, get_or-drop, take-suc, drop-cons}
use Rattle.base.proofs.Lists.{map_append, clash, get_d_map}
use Rattle.base.specs.Limits.{k_limit}
use Rattle.kmers.specs.Letters.{value, is_foreign, either_case}
use Rattle.kmers.specs.Kmers.{code_of, digits}
use Rattle.kmers.specs.Places.{code_at}

pub value_below : (b : ℕ) → is_foreign b ≡ false → value b < 4
unfolding value is_foreign
value_below b h = go (either_case 65 97 b) (either_case 67 99 b) (either_case 71 103 b) (either_case 84 116 b) h
  where
    go : (a c g t : Bool) → eqb (cond a 0 (cond c 1 (cond g 2 (cond t 3 4)))) 4 ≡ false → cond a 0 (cond c 1 (cond g 2 (cond t 3 4))) < 4
    go true c g t e = lit< tt
    go false true g t e = lit< tt
    go false false true t e = lit< tt
    go false false false true e = lit< tt
    go false false false false e = clash refl e

-- base-4 digits behind n make a number below (n + 1) · 4 to the number of digits
digits_below : (n : ℕ) (vs : List ℕ) → ((i : ℕ) → i < length vs → get_or vs i 0 < 4) → digits n vs < suc n * 4 ^ length vs
digits_below n [] h = omega arith
digits_below n (v ∷ vs) h =
    let power : ℕ = 4 ^ length vs in
    let last : v < 4 = h 0 (omega arith) in
    let rest : digits (4 * n + v) vs < suc (4 * n + v) * power = digits_below (4 * n + v) vs (λ i l. h (suc i) (omega arith)) in
    let more : suc (4 * n + v) * power ≤ 4 * suc n * power = mul-le-mul_right power (omega arith) in
    let same : 4 * suc n * power ≡ suc n * 4 ^ suc (length vs) = rw (pow-succ' 4 (length vs)) (omega arith) in
    subst (λ (x : ℕ). digits (4 * n + v) vs < x) same (lt_of_lt_of_le rest more)

-- digits behind n are n times a power and the digits by themselves
digits_lead : (n : ℕ) (vs : List ℕ) → digits n vs ≡ n * 4 ^ length vs + digits 0 vs
digits_lead n [] = omega arith
digits_lead n (v ∷ vs) =
    let power : ℕ = 4 ^ length vs in
    let all : digits (4 * n + v) vs ≡ (4 * n + v) * power + digits 0 vs = digits_lead (4 * n + v) vs in
    let first : digits (4 * 0 + v) vs ≡ (4 * 0 + v) * power + digits 0 vs = digits_lead (4 * 0 + v) vs in
    let more : 4 ^ suc (length vs) ≡ 4 * power = pow-succ' 4 (length vs) in
    rw more (omega arith)

digits_last : (n v : ℕ) (vs : List ℕ) → digits n (vs ++ v ∷ []) ≡ 4 * digits n vs + v
digits_last n v [] = refl
digits_last n v (u ∷ vs) = digits_last (4 * n + u) v vs

-- one more digit, and the first one cut off
pub cut_digit : (last code v : ℕ) → v < 4 → (4 * code + v) % 4 ^ suc last ≡ 4 * (code % 4 ^ last) + v
cut_digit last code v h =
    let power : ℕ = 4 ^ last in
    let some : 1 ≤ power = one-le-pow last 4 (lit< tt) in
    let small : code % power < power = mod-lt code some in
    let parts : power * (code / power) + code % power ≡ code = div-add-mod code power in
    let split : 4 * code + v ≡ (4 * (code % power) + v) + 4 * power * (code / power) = omega arith in
    rw (pow-succ' 4 last, split, add-mul-mod_self_left (4 * (code % power) + v) (4 * power) (code / power)) (mod-eq_of_lt (omega arith))

two_four : (k : ℕ) → 2 ^ (2 * k) ≡ 4 ^ k
two_four zero = refl
two_four (suc k) =
    let e : 2 * suc k ≡ suc (suc (2 * k)) = omega arith in
    let p : 2 ^ suc (suc (2 * k)) ≡ 2 * (2 * 2 ^ (2 * k)) = pow-succ' 2 (suc (2 * k)) ∙ ap (λ (x : ℕ). 2 * x) (pow-succ' 2 (2 * k)) in
    rw (e, p, two_four k, pow-succ' 4 k) (omega arith)

-- four shifted by two bits for each of the last digits, as 32 bits hold it
pub shifted_four : (last : ℕ) → last < k_limit → 4 * 2 ^ (2 * last) % 2 ^ 32 ≡ 4 ^ suc last
shifted_four last h = rw (two_four last, ← pow-succ' 4 last) (mod-eq_of_lt (lt_of_le_of_lt (pow-le-pow_right (lit< tt) h) (lit< tt)))

-- what the mask of these digits leaves
pub masked : (x last : ℕ) → last < k_limit → bit_and x (4 * 2 ^ (2 * last) % 2 ^ 32 - 1) ≡ x % 4 ^ suc last
masked x last h = rw (shifted_four last h, ← two_four (suc last)) (and_mask x (2 * suc last))

module _ (letters : List ℕ) where
  code_at_length : (k p : ℕ) → p + k ≤ length letters → length (map value (take k (drop p letters))) ≡ k
  code_at_length k p h = length-map (take k (drop p letters)) value ∙ length-take-le k (drop p letters) (rw (length-drop p letters) (omega arith))

  -- k letters of the eight have a code below 4^k
  pub code_at_below : (k p : ℕ) → p + k ≤ length letters → ((q : ℕ) → p ≤ q → q < p + k → is_foreign (get_or letters q 0) ≡ false)
      → code_at k letters p < 4 ^ k
  unfolding code_at code_of
  code_at_below k p h known =
      let below : digits 0 vs < 1 * 4 ^ length vs = digits_below 0 vs small in
      rw (code_at_length k p h, one-mul) at below
    where
      vs : List ℕ
      vs = map value (take k (drop p letters))

      small : (i : ℕ) → i < length vs → get_or vs i 0 < 4
      small i l =
          let j : i < k = rw (code_at_length k p h) at l in
          let at : get_or (take k (drop p letters)) i 0 ≡ get_or letters (p + i) 0 = get_or-take k (drop p letters) i 0 j ∙ get_or-drop p letters i 0 in
          subst (λ (x : ℕ). x < 4) (sym (get_d_map value (take k (drop p letters)) i (rw length-map at l) ∙ ap value at))
          (value_below (get_or letters (p + i) 0) (known (p + i) (omega arith) (omega arith)))

  -- one letter more behind
  pub code_at_suc : (last p : ℕ) → p + last < length letters
      → code_at (suc last) letters p ≡ 4 * code_at last letters p + value (get_or letters (p + last) 0)
  unfolding code_at code_of
  code_at_suc last p h =
      ap (λ (l : List ℕ). digits 0 (map value l)) (take-suc (drop p letters) last 0 (rw (length-drop p letters) (omega arith)))
      ∙ ap (digits 0) (map_append value (take last (drop p letters)) (get_or (drop p letters) last 0 ∷ []))
      ∙ digits_last 0 (value (get_or (drop p letters) last 0)) (map value (take last (drop p letters)))
      ∙ ap (λ (x : ℕ). 4 * digits 0 (map value (take last (drop p letters))) + value x) (get_or-drop p letters last 0)

  -- the letters behind the first one
  pub code_at_cut : (last p : ℕ) → p + last < length letters → ((q : ℕ) → p ≤ q → q < p + suc last → is_foreign (get_or letters q 0) ≡ false)
      → code_at (suc last) letters p % 4 ^ last ≡ code_at last letters (suc p)
  unfolding code_at code_of
  code_at_cut last p h known =
      let v : ℕ = value (get_or letters p 0) in
      let vs : List ℕ = map value (take last (drop (suc p) letters)) in
      let sized : length vs ≡ last = code_at_length last (suc p) (omega arith) in
      let all : code_at (suc last) letters p ≡ digits (4 * 0 + v) vs =
      ap (λ (l : List ℕ). digits 0 (map value (take (suc last) l))) (drop-cons letters p 0 (omega arith)) in
      let lead : digits (4 * 0 + v) vs ≡ (4 * 0 + v) * 4 ^ length vs + digits 0 vs = digits_lead (4 * 0 + v) vs in
      let split : code_at (suc last) letters p ≡ digits 0 vs + 4 ^ last * (4 * 0 + v) = all ∙ lead ∙ rw sized (omega arith) in
      rw (split, add-mul-mod_self_left (digits 0 vs) (4 ^ last) (4 * 0 + v))
      (mod-eq_of_lt (code_at_below last (suc p) (omega arith) (λ q a b. known q (omega arith) (omega arith))))
