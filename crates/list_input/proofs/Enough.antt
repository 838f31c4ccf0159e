-- The first bytes of the input decide: a program that reads `input_limit` of them decides like one that reads all.
use Prim.Native.Nat.{ℕ, zero, suc, ◌+◌, ◌-◌, ◌*◌, ◌^◌, min, ◌≤◌, ◌<◌}
use native.Mathlib.Nat.{sub-zero, mul-le-mul_right, pow-le-pow_right, pow-succ'}
use native.Mathlib.Omega.{arith}
use mathlib.Core.Path.{◌≡◌, refl, sym, ap, ap₂, ◌∙◌, subst}
use mathlib.Core.Logic.{◌⊎◌, inl, inr}
use mathlib.Core.Bool.{Bool, true, false, not, ◌&&◌, false≢true}
use mathlib.Core.List.{List, [], ◌∷◌}
use lib.Dec.{leb, ltb, eqb}
use lib.ListN.{length, get_or, take, drop, length-take}
use lib.Seq.{take-nil, take_all}
use borrow.Author.Tests.{ltb-true, leb-true, leb-false, eqb-false, ne_eqb, not-true, le-leb}
use Rattle.base.specs.Lists.{every, extend}
use Rattle.base.proofs.Lists.{and_left, and_right, decided}
use Rattle.base.specs.Limits.{line_limit, word_limit, signed_limit}
use Rattle.list_input.specs.Input.{input_limit}
use Rattle.base.specs.Bytes.{space, line_feed, minus, digit}
use Rattle.list_input.specs.Input.{is_digit, is_decimal, decimal_value, is_unsigned, is_signed, is_jaccard, is_last_field, fields, lines}
use Rattle.list_input.specs.Input.{is_first_line, is_well_formed, malformed, input_of}
use Rattle.list_input.specs.Answers.{first_part}
use Rattle.list_input.proofs.Numbers.{signed_tests, word_is}
use Rattle.list_input.proofs.Parts.{parts, first_at, first_more, two_parts, parts_more}
use Rattle.list_input.proofs.Lines.{input_from, input_from_lem, well_formed_lines, first, second, third, behind₃, three_lines, some_part}

-- ---- the parts of the first n bytes

drop_take : {A : Type 0} (m n : ℕ) (l : List A) → drop m (take n l) ≡ take (n - m) (drop m l)
drop_take zero n l = ap (λ (k : ℕ). take k l) (sym (sub-zero n))
drop_take (suc m) zero l = let e : 0 - suc m ≡ 0 = omega arith in ap (λ (k : ℕ). take k (drop (suc m) l)) (sym e)
drop_take (suc m) (suc n) [] = sym (take-nil (suc n - suc m))
drop_take (suc m) (suc n) (x ∷ l) = let e : suc n - suc m ≡ n - m = omega arith in drop_take m n l ∙ ap (λ (k : ℕ). take k (drop m l)) (sym e)

first_of_take : (b n : ℕ) (l : List ℕ) → first_part b (take n l) ≡ take n (first_part b l)
unfolding first_part
first_of_take b zero l = refl
first_of_take b (suc n) [] = refl
first_of_take b (suc n) (x ∷ l) = go (first_of_take b n l) (eqb x b) refl
  where
    go : first_part b (take n l) ≡ take n (first_part b l) → (t : Bool) → eqb x b ≡ t
        → first_part b (x ∷ take n l) ≡ take (suc n) (first_part b (x ∷ l))
    go rec true e = first_at b x (take n l) e ∙ ap (take (suc n)) (sym (first_at b x l e))
    go rec false e = first_more b x (take n l) e ∙ ap (λ (r : List ℕ). x ∷ r) rec ∙ ap (take (suc n)) (sym (first_more b x l e))

-- a separator among the first n bytes
module _ (b n : ℕ) (l : List ℕ) where
  abbrev Cut : Type 0
  Cut = (length (first_part b l) < length l) × (length (first_part b l) < n)

  abbrev behind : ℕ
  behind = suc (length (first_part b l))

  first_same : length (first_part b l) ≤ n → first_part b (take n l) ≡ first_part b l
  first_same h = first_of_take b n l ∙ take_all n (first_part b l) h

  cut_take : Cut → parts b (take n l) ≡ first_part b l ∷ parts b (take (n - behind) (drop behind l))
  cut_take c =
      let same : first_part b (take n l) ≡ first_part b l = first_same (omega arith) in
      let e : length (first_part b (take n l)) ≡ length (first_part b l) = ap length same in
      let taken : length (take n l) ≡ min n (length l) = length-take n l in
      parts_more b (take n l) (omega arith)
      ∙ ap₂ (λ (p : List ℕ) (r : List ℕ). p ∷ parts b r) same (ap (λ (k : ℕ). drop (suc k) (take n l)) e ∙ drop_take behind n l)

  cut_all : Cut → parts b l ≡ first_part b l ∷ parts b (drop behind l)
  cut_all c = parts_more b l c.0

  -- where the first n bytes have two parts
  cut_of_take : 2 ≤ length (parts b (take n l)) → Cut
  cut_of_take h =
      let first : length (first_part b (take n l)) < length (take n l) = two_parts b (take n l) h in
      let e : length (first_part b (take n l)) ≡ min n (length (first_part b l)) = ap length (first_of_take b n l) ∙ length-take n (first_part b l) in
      let taken : length (take n l) ≡ min n (length l) = length-take n l in
      omega arith

-- ---- three lines among the first n bytes

-- what follows them is ignored
three_decide : (a b c : List ℕ) (ps qs : List (List ℕ)) → 1 ≤ length ps → 1 ≤ length qs
    → input_from (a ∷ b ∷ c ∷ ps) ≡ input_from (a ∷ b ∷ c ∷ qs)
unfolding is_well_formed
three_decide a b c ps qs h k = rw (le-leb 4 (length (a ∷ b ∷ c ∷ ps)) (omega arith), le-leb 4 (length (a ∷ b ∷ c ∷ qs)) (omega arith))

module _ (n : ℕ) (bytes : List ℕ) where
  abbrev rest₁ : List ℕ
  rest₁ = drop (behind line_feed n bytes) bytes

  abbrev n₁ : ℕ
  n₁ = n - behind line_feed n bytes

  abbrev rest₂ : List ℕ
  rest₂ = drop (behind line_feed n₁ rest₁) rest₁

  abbrev n₂ : ℕ
  n₂ = n₁ - behind line_feed n₁ rest₁

  abbrev rest₃ : List ℕ
  rest₃ = drop (behind line_feed n₂ rest₂) rest₂

  abbrev n₃ : ℕ
  n₃ = n₂ - behind line_feed n₂ rest₂

  abbrev Cuts : Type 0
  Cuts = Cut line_feed n bytes × Cut line_feed n₁ rest₁ × Cut line_feed n₂ rest₂

  lines_of_take : Cuts
      → lines (take n bytes) ≡ first_part line_feed bytes ∷ first_part line_feed rest₁ ∷ first_part line_feed rest₂ ∷ parts line_feed (take n₃ rest₃)
  unfolding lines
  lines_of_take c =
      cut_take line_feed n bytes c.0
      ∙ ap (λ (ls : List (List ℕ)). first_part line_feed bytes ∷ ls) (cut_take line_feed n₁ rest₁ c.1)
      ∙ ap (λ (ls : List (List ℕ)). first_part line_feed bytes ∷ first_part line_feed rest₁ ∷ ls) (cut_take line_feed n₂ rest₂ c.2)

  lines_of_all : Cuts → lines bytes ≡ first_part line_feed bytes ∷ first_part line_feed rest₁ ∷ first_part line_feed rest₂ ∷ parts line_feed rest₃
  unfolding lines
  lines_of_all c =
      cut_all line_feed n bytes c.0
      ∙ ap (λ (ls : List (List ℕ)). first_part line_feed bytes ∷ ls) (cut_all line_feed n₁ rest₁ c.1)
      ∙ ap (λ (ls : List (List ℕ)). first_part line_feed bytes ∷ first_part line_feed rest₁ ∷ ls) (cut_all line_feed n₂ rest₂ c.2)

  same_input : Cuts → input_of (take n bytes) ≡ input_of bytes
  same_input c =
      input_from_lem (take n bytes)
      ∙ ap input_from (lines_of_take c)
      ∙ three_decide _ _ _ (parts line_feed (take n₃ rest₃)) (parts line_feed rest₃) (some_part line_feed (take n₃ rest₃)) (some_part line_feed rest₃)
      ∙ ap input_from (sym (lines_of_all c))
      ∙ sym (input_from_lem bytes)

  -- the first n bytes have them
  cuts_of_take : 4 ≤ length (lines (take n bytes)) → Cuts
  unfolding lines
  cuts_of_take h =
      let c₁ : Cut line_feed n bytes = cut_of_take line_feed n bytes (omega arith) in
      let e₁ : length (parts line_feed (take n bytes)) ≡ suc (length (parts line_feed (take n₁ rest₁))) = ap length (cut_take line_feed n bytes c₁) in
      let c₂ : Cut line_feed n₁ rest₁ = cut_of_take line_feed n₁ rest₁ (omega arith) in
      let e₂ : length (parts line_feed (take n₁ rest₁)) ≡ suc (length (parts line_feed (take n₂ rest₂))) =
      ap length (cut_take line_feed n₁ rest₁ c₂) in
      (c₁, c₂, cut_of_take line_feed n₂ rest₂ (omega arith))

  -- all bytes have them, and early enough
  cuts_of_all : 4 ≤ length (lines bytes) → length (get_or (lines bytes) 0 []) ≤ 66 → length (get_or (lines bytes) 1 []) ≤ line_limit
      → length (get_or (lines bytes) 2 []) ≤ line_limit → input_limit ≤ n → Cuts
  cuts_of_all h a b d room =
      let t = three_lines bytes h in
      let e : (i : ℕ) → length (get_or (lines bytes) i [])
      ≡ length (get_or (first bytes ∷ second bytes ∷ third bytes ∷ parts line_feed (behind₃ bytes)) i []) =
      λ i. ap (λ (ls : List (List ℕ)). length (get_or ls i [])) t.these
      in
      ((t.one, omega (arith, e 0)), (t.two, omega (arith, e 0, e 1)), (t.three, omega (arith, e 0, e 1, e 2)))

-- ---- a well-formed first line is short

value_pow : (n : ℕ) (l : List ℕ) → n * 10 ^ length l ≤ decimal_value n l
value_pow n [] = omega arith
value_pow n (b ∷ l) =
    let rec : (10 * n + (b - digit 0)) * 10 ^ length l ≤ decimal_value (10 * n + (b - digit 0)) l = value_pow (10 * n + (b - digit 0)) l in
    let e : 10 ^ suc (length l) ≡ 10 * 10 ^ length l = pow-succ' 10 (length l) in
    subst (λ (p : ℕ). n * p ≤ decimal_value (10 * n + (b - digit 0)) l) (sym e) (omega arith)

-- a number below 10^10 has at most ten digits
length_number : (l : List ℕ) → is_decimal l ≡ true → decimal_value 0 l < 10 ^ 10 → length l ≤ 10
length_number [] e h = omega arith
length_number (b ∷ []) e h = omega arith
length_number (b ∷ x ∷ l) e h = go (decided (leb (length l) 8))
  where
    go : (leb (length l) 8 ≡ true) ⊎ (leb (length l) 8 ≡ false) → suc (suc (length l)) ≤ 10
    go (inl t) = let k : length l ≤ 8 = leb-true (length l) 8 t in omega arith
    go (inr t) =
        let many : 8 < length l = leb-false (length l) 8 t in
        let nonzero : b ≡ 48 → ⊥ = eqb-false b 48 (not-true (eqb b (digit 0)) (and_left (not (eqb b (digit 0))) (every is_digit (b ∷ x ∷ l)) e)) in
        let digits : every is_digit (b ∷ x ∷ l) ≡ true = and_right (not (eqb b (digit 0))) (every is_digit (b ∷ x ∷ l)) e in
        let low : 48 ≤ b = leb-true 48 b (and_left (leb 48 b) (leb b 57) (and_left (is_digit b) (every is_digit (x ∷ l)) digits)) in
        let v : (0 + (b - 48)) * 10 ^ suc (length l) ≤ decimal_value (0 + (b - 48)) (x ∷ l) = value_pow (0 + (b - 48)) (x ∷ l) in
        let ten : 0 < 10 = omega arith in
        let enough : 10 ≤ suc (length l) = omega arith in
        let p : 10 ^ 10 ≤ 10 ^ suc (length l) = pow-le-pow_right ten enough in
        let one : 1 ≤ 0 + (b - 48) = omega arith in
        let q : 1 * 10 ^ suc (length l) ≤ (0 + (b - 48)) * 10 ^ suc (length l) = mul-le-mul_right (10 ^ suc (length l)) one in
        absurd (omega arith)

length_unsigned : (l : List ℕ) → is_unsigned l ≡ true → length l ≤ 10
unfolding is_unsigned
length_unsigned l e =
    let v : decimal_value 0 l < word_limit = ltb-true (decimal_value 0 l) word_limit (and_right (is_decimal l) (ltb (decimal_value 0 l) word_limit) e) in
    length_number l (and_left (is_decimal l) (ltb (decimal_value 0 l) word_limit) e) (omega arith)

length_signed : (l : List ℕ) → is_signed l ≡ true → length l ≤ 11
length_signed [] e = omega arith
length_signed (b ∷ l) e = go (signed_tests b l e)
  where
    go : ((b ≡ minus) × (is_decimal l ≡ true) × (decimal_value 0 l ≤ signed_limit))
        ⊎ ((is_decimal (b ∷ l) ≡ true) × (decimal_value 0 (b ∷ l) < signed_limit))
        → suc (length l) ≤ 11
    go (inl t) = let v : decimal_value 0 l ≤ signed_limit = t.2 in let k : length l ≤ 10 = length_number l t.1 (omega arith) in omega arith
    go (inr t) =
        let v : decimal_value 0 (b ∷ l) < signed_limit = t.1 in
        let k : suc (length l) ≤ 10 = length_number (b ∷ l) t.0 (omega arith) in
        omega arith

length_last : (l : List ℕ) → is_last_field l ≡ true → length l ≤ 11
length_last l e = go (is_jaccard l) refl
  where
    go : (t : Bool) → is_jaccard l ≡ t → length l ≤ 11
    go true t = let seven : length l ≡ 7 = ap length (word_is l t) in omega arith
    go false t = length_signed l (rw t at e)

-- the bytes of the parts, with one byte more for each part
total : List (List ℕ) → ℕ
total [] = 0
total (p ∷ ps) = suc (length p) + total ps

total_extend : (x : ℕ) (ps : List (List ℕ)) (n : ℕ) → suc n ≡ total ps → suc (suc n) ≡ total (extend x ps)
unfolding total
total_extend x [] n e = absurd (omega arith)
total_extend x (p ∷ ps) n e = omega arith

total_parts : (b : ℕ) (l : List ℕ) → suc (length l) ≡ total (parts b l)
unfolding total
total_parts b [] = refl
total_parts b (x ∷ l) = go (total_parts b l) (eqb x b) refl
  where
    go : suc (length l) ≡ total (parts b l) → (t : Bool) → eqb x b ≡ t → suc (suc (length l)) ≡ total (parts b (x ∷ l))
    go rec true t = rw t (omega arith)
    go rec false t = rw t (total_extend x (parts b l) (length l) rec)

-- a first line has six fields, each of them short
total_fields : (fs : List (List ℕ)) → is_first_line fs ≡ true → total fs ≤ 67
unfolding is_first_line total
total_fields [] e = absurd (false≢true e)
total_fields (a ∷ []) e = absurd (false≢true e)
total_fields (a ∷ b ∷ []) e = absurd (false≢true e)
total_fields (a ∷ b ∷ c ∷ []) e = absurd (false≢true e)
total_fields (a ∷ b ∷ c ∷ d ∷ []) e = absurd (false≢true e)
total_fields (a ∷ b ∷ c ∷ d ∷ f ∷ []) e = absurd (false≢true e)
total_fields (a ∷ b ∷ c ∷ d ∷ f ∷ g ∷ []) e =
    let e₅ = and_left (is_unsigned a && is_unsigned b && is_unsigned c && is_unsigned d && is_unsigned f) (is_last_field g) e in
    let e₄ = and_left (is_unsigned a && is_unsigned b && is_unsigned c && is_unsigned d) (is_unsigned f) e₅ in
    let e₃ = and_left (is_unsigned a && is_unsigned b && is_unsigned c) (is_unsigned d) e₄ in
    let e₂ = and_left (is_unsigned a && is_unsigned b) (is_unsigned c) e₃ in
    let a₁ : length a ≤ 10 = length_unsigned a (and_left (is_unsigned a) (is_unsigned b) e₂) in
    let b₁ : length b ≤ 10 = length_unsigned b (and_right (is_unsigned a) (is_unsigned b) e₂) in
    let c₁ : length c ≤ 10 = length_unsigned c (and_right (is_unsigned a && is_unsigned b) (is_unsigned c) e₃) in
    let d₁ : length d ≤ 10 = length_unsigned d (and_right (is_unsigned a && is_unsigned b && is_unsigned c) (is_unsigned d) e₄) in
    let f₁ : length f ≤ 10 = length_unsigned f (and_right (is_unsigned a && is_unsigned b && is_unsigned c && is_unsigned d) (is_unsigned f) e₅) in
    let g₁ : length g ≤ 11 =
    length_last g (and_right (is_unsigned a && is_unsigned b && is_unsigned c && is_unsigned d && is_unsigned f) (is_last_field g) e) in
    omega arith
total_fields (a ∷ b ∷ c ∷ d ∷ f ∷ g ∷ h ∷ fs) e =
    let six : eqb (length (a ∷ b ∷ c ∷ d ∷ f ∷ g ∷ h ∷ fs)) 6 ≡ false =
    ne_eqb (length (a ∷ b ∷ c ∷ d ∷ f ∷ g ∷ h ∷ fs)) 6 (λ q. omega arith) in
    absurd (false≢true (rw six at e))

length_first_line : (l : List ℕ) → is_first_line (fields l) ≡ true → length l ≤ 66
unfolding fields
length_first_line l e =
    let t : suc (length l)
    ≡ total (parts space l) = total_parts space l in let h : total (parts space l) ≤ 67 = total_fields (parts space l) e in omega arith

-- ---- all together

bad : (bytes : List ℕ) → is_well_formed (lines bytes) ≡ false → input_of bytes ≡ malformed
bad bytes e = input_from_lem bytes ∙ rw e

-- the first bytes decide
pub enough_bytes : (n : ℕ) (bytes : List ℕ) → input_limit ≤ n → input_of (take n bytes) ≡ input_of bytes
enough_bytes n bytes room = go (is_well_formed (lines (take n bytes))) refl (is_well_formed (lines bytes)) refl
  where
    go : (s : Bool) → is_well_formed (lines (take n bytes)) ≡ s → (t : Bool) → is_well_formed (lines bytes) ≡ t
        → input_of (take n bytes) ≡ input_of bytes
    go true p t q = same_input n bytes (cuts_of_take n bytes (well_formed_lines (lines (take n bytes)) p).0)
    go false p true q =
        let w = well_formed_lines (lines bytes) q in
        same_input n bytes (cuts_of_all n bytes w.0 (length_first_line (get_or (lines bytes) 0 []) w.1) w.2 w.3 room)
    go false p false q = bad (take n bytes) p ∙ sym (bad bytes q)
