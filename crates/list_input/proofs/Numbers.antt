-- Laws of the numbers that are read, one digit after the other, with a limit; and of the last field of a first line.
use Prim.Native.Nat.{ℕ, zero, suc, ◌+◌, ◌-◌, ◌*◌, ◌^◌, ◌≤◌, ◌<◌}
use native.Mathlib.Omega.{arith}
use mathlib.Core.Path.{◌≡◌, refl, sym, ap, ap₂, ◌∙◌, subst}
use mathlib.Core.Logic.{◌⊎◌, inl, inr}
use mathlib.Core.Bool.{Bool, true, false, cond, ◌&&◌, false≢true}
use mathlib.Core.List.{List, [], ◌∷◌}
use lib.Dec.{leb, ltb, eqb}
use lib.ListN.{length, get_or, drop, drop_of_length-le}
use lib.Seq.{drop-cons}
use native.Mathlib.Numerals.{add-one}
use lib.IntN.{ℤ, pos, negsuc, neg_ℤ}
use lib.Pointwise.{pointwise}
use mir.Syntax.{w32}
use mir.Val.{SFits}
use borrow.Author.Tests.{lt-ltb, le-ltb, le-leb, lt-leb, leb-true, ltb-true, eqb-true, eq-eqb, ne_eqb}
use Rattle.std.proofs.lemmas.Bool.Decides.{nat_tests}
use Rattle.base.specs.Lists.{every}
use Rattle.base.proofs.Lists.{and_left, and_right}
use Rattle.base.specs.Limits.{signed_limit, word_limit}
use Rattle.base.specs.Bytes.{space, minus, digit}
use Rattle.mappings.specs.declared.Scoring.TheVariants.{Linear, Jaccard}
use Rattle.list_input.specs.Input.{is_digit, is_decimal, decimal_value, is_unsigned, is_signed, signed_value, same_bytes, jaccard_word, is_jaccard, scoring_of}
use Rattle.list_input.specs.declared.Field.{Field}
use Rattle.mappings.specs.declared.Scoring.{Scoring}
use Rattle.std.specs.Prelude.{Option, Some, None, Result, Ok, Err}
use Rattle.std.specs.Result.{OkIff, result_ok}
use Rattle.list_input.specs.Answers.{first_part, digits_of, number_of, field_of, threshold_of, last_field_of}

pub and_false : (b : Bool) → (b && false) ≡ false
and_false true = refl
and_false false = refl

-- a digit more makes the number no smaller
value_le : (n : ℕ) (l : List ℕ) → n ≤ decimal_value n l
value_le n [] = omega arith
value_le n (b ∷ l) = let h : 10 * n + (b - digit 0) ≤ decimal_value (10 * n + (b - digit 0)) l = value_le (10 * n + (b - digit 0)) l in omega arith

-- ---- digits

pub below_digit : (b : ℕ) → b < 48 → is_digit b ≡ false
below_digit b h = rw (lt-leb 48 b h)

pub above_digit : (b : ℕ) → 57 < b → is_digit b ≡ false
above_digit b h = rw (lt-leb b 57 h) (and_false (leb 48 b))

pub is_digit_lem : (b : ℕ) → 48 ≤ b → b ≤ 57 → is_digit b ≡ true
is_digit_lem b h k = rw (le-leb 48 b h, le-leb b 57 k)

module _ (n : ℕ) where
  pub digits_bad : (b : ℕ) (l : List ℕ) → is_digit b ≡ false → digits_of n (b ∷ l) ≡ None
  unfolding digits_of
  digits_bad b l e = rw e

  pub digits_next : (b : ℕ) (l : List ℕ) → is_digit b ≡ true → digits_of n (b ∷ l) ≡ digits_of (10 * n + (b - 48)) l
  unfolding digits_of
  digits_next b l e = rw e

  pub digits_over : (l : List ℕ) → word_limit ≤ n → digits_of n l ≡ None
  unfolding digits_of
  digits_over l h =
      let v : n ≤ decimal_value n l = value_le n l in
      let e : ltb (decimal_value n l) word_limit ≡ false = le-ltb (decimal_value n l) word_limit (omega arith) in
      simp (e, and_false)

  pub digits_end : n < word_limit → digits_of n [] ≡ Some n
  unfolding digits_of
  digits_end h = rw (lt-ltb n word_limit h)

  -- the digit at an index, and those behind it
  module _ (l : List ℕ) (i : ℕ) where
    pub bad_digit : i < length l → is_digit (get_or l i 0) ≡ false → digits_of n (drop i l) ≡ None
    bad_digit h e = ap (digits_of n) (drop-cons l i 0 h) ∙ digits_bad (get_or l i 0) (drop (suc i) l) e

    pub next_digit : i < length l → is_digit (get_or l i 0) ≡ true
        → digits_of n (drop i l) ≡ digits_of (10 * n + (get_or l i 0 - 48)) (drop (i + 1) l)
    next_digit h e =
        ap (digits_of n) (drop-cons l i 0 h)
        ∙ digits_next (get_or l i 0) (drop (suc i) l) e
        ∙ ap (λ (k : ℕ). digits_of (10 * n + (get_or l i 0 - 48)) (drop k l)) (sym (add-one i))

    pub no_digit : length l ≤ i → n < word_limit → digits_of n (drop i l) ≡ Some n
    no_digit h k = ap (digits_of n) (drop_of_length-le l h) ∙ digits_end k

-- the number with one digit more is too large
pub one_digit_over : (n : ℕ) (l : List ℕ) (i : ℕ) → i < length l → is_digit (get_or l i 0) ≡ true
    → word_limit ≤ 10 * n + (get_or l i 0 - 48)
    → digits_of n (drop i l) ≡ None
one_digit_over n l i h e over = next_digit n l i h e ∙ digits_over (10 * n + (get_or l i 0 - 48)) (drop (i + 1) l) over

-- ---- no leading zeros

pub and_true : (b : Bool) → (b && true) ≡ b
and_true true = refl
and_true false = refl

-- behind a first digit other than 0 only digits matter
decimal_lead : (b : ℕ) (l : List ℕ) → (b ≡ 48 → ⊥) → is_decimal (b ∷ l) ≡ every is_digit (b ∷ l)
decimal_lead b [] ne = sym (and_true (is_digit b))
decimal_lead b (x ∷ l) ne = rw (ne_eqb b 48 ne)

pub number_none : (l : List ℕ) → length l ≡ 0 → number_of l ≡ None
unfolding number_of is_unsigned
number_none [] e = refl
number_none (b ∷ l) e = absurd (omega arith)

-- a zero with more behind it
pub number_long : (l : List ℕ) → get_or l 0 0 ≡ 48 → 1 < length l → number_of l ≡ None
unfolding number_of is_unsigned
number_long [] e h = absurd (omega arith)
number_long (b ∷ []) e h = absurd (omega arith)
number_long (b ∷ x ∷ l) e h = rw (eq-eqb b 48 e)

pub number_digits : (l : List ℕ) → 1 ≤ length l → (get_or l 0 0 ≡ 48 → length l ≤ 1) → number_of l ≡ digits_of 0 l
unfolding number_of is_unsigned digits_of
number_digits [] some lead = absurd (omega arith)
number_digits (b ∷ []) some lead = rw (and_true (is_digit b))
number_digits (b ∷ x ∷ l) some lead = rw (decimal_lead b (x ∷ l) (λ e. let short : suc (suc (length l)) ≤ 1 = lead e in omega arith))

-- ---- a signed number is a minus and a number, or a number

pub signed_tests : (b : ℕ) (l : List ℕ) → is_signed (b ∷ l) ≡ true
    → ((b ≡ minus) × (is_decimal l ≡ true) × (decimal_value 0 l ≤ signed_limit)) ⊎
    ((is_decimal (b ∷ l) ≡ true) × (decimal_value 0 (b ∷ l) < signed_limit))
unfolding is_signed
signed_tests b l e = go (eqb b minus) refl
  where
    go : (t : Bool) → eqb b minus ≡ t
        → ((b ≡ minus) × (is_decimal l ≡ true) × (decimal_value 0 l ≤ signed_limit)) ⊎
        ((is_decimal (b ∷ l) ≡ true) × (decimal_value 0 (b ∷ l) < signed_limit))
    go true t =
        let v : ℕ = decimal_value 0 l in
        let tests : (is_decimal l && ltb 0 v && leb v signed_limit) ≡ true = rw t at e in
        inl (
          eqb-true b minus t,
          and_left (is_decimal l) (ltb 0 v) (and_left (is_decimal l && ltb 0 v) (leb v signed_limit) tests),
          leb-true v signed_limit (and_right (is_decimal l && ltb 0 v) (leb v signed_limit) tests),
        )
    go false t =
        let v : ℕ = decimal_value 0 (b ∷ l) in
        let tests : (is_decimal (b ∷ l) && ltb v signed_limit) ≡ true = rw t at e in
        inr (and_left (is_decimal (b ∷ l)) (ltb v signed_limit) tests, ltb-true v signed_limit (and_right (is_decimal (b ∷ l)) (ltb v signed_limit) tests))

-- ---- what is made of a number that was read

pub after_cond : {A B : Type 0} (f : A → B) (b : Bool) (x y : A) → f (cond b x y) ≡ cond b (f x) (f y)
after_cond f true x y = refl
after_cond f false x y = refl

-- a field, from the number in front of the space
abbrev pub as_field : ℕ → Option ℕ → Option Field
as_field next None = None
as_field next (Some v) = Some (record { value = v; next = next })

pub field_none : (line : List ℕ) (from : ℕ) → length (first_part space (drop from line)) ≡ length (drop from line) → field_of line from ≡ None
unfolding field_of
field_none line from e = rw (le-ltb (length (first_part space (drop from line))) (length (drop from line)) (omega arith))

pub field_some : (line : List ℕ) (from : ℕ) → length (first_part space (drop from line)) < length (drop from line)
    → field_of line from ≡ as_field (from + length (first_part space (drop from line)) + 1) (number_of (first_part space (drop from line)))
unfolding field_of number_of
field_some line from h =
    let p : List ℕ = first_part space (drop from line) in
    rw (lt-ltb (length (first_part space (drop from line))) (length (drop from line)) h)
    (sym (after_cond (as_field (from + length p + 1)) (is_unsigned p) (Some (decimal_value 0 p)) None))

-- a threshold, from the number behind a minus
abbrev pub as_negative : Option ℕ → Option ℤ
as_negative None = None
as_negative (Some v) = cond (ltb 0 v && leb v signed_limit) (Some (neg_ℤ (pos v))) None

-- and from one without a minus
abbrev pub as_positive : Option ℕ → Option ℤ
as_positive None = None
as_positive (Some v) = cond (ltb v signed_limit) (Some (pos v)) None

-- a number below the limit of signed ones is a number of 32 bits
minus_tests : (d : Bool) (v : ℕ)
    → cond (d && ltb 0 v && leb v signed_limit) (Some (neg_ℤ (pos v))) None ≡ cond (d && ltb v word_limit) (as_negative (Some v)) None
minus_tests false v = refl
minus_tests true v = grind (arith, nat_tests)

plain_tests : (d : Bool) (v : ℕ) → cond (d && ltb v signed_limit) (Some (pos v)) None ≡ cond (d && ltb v word_limit) (as_positive (Some v)) None
plain_tests false v = refl
plain_tests true v = grind (arith, nat_tests)

-- what a conversion to a signed number of 32 bits answers: the threshold, where it is one
module _ {E : Type 0} where
  pub plain_value : (r : Result ℤ E) (v : ℕ) → OkIff r (SFits w32 (pos v)) (pos v) → result_ok r ≡ as_positive (Some v)
  plain_value (Ok z) v (fits, e) = let h : v < 2 ^ 31 = fits.sfits in rw (lt-ltb v signed_limit h, e)
  plain_value (Err e) v unfit = let h : v < 2 ^ 31 → ⊥ = λ l. unfit (record { sfits = l }) in rw (le-ltb v signed_limit (omega arith))

  pub minus_value : (r : Result ℤ E) (v : ℕ) (z : ℤ) → z ≡ neg_ℤ (pos v) → (v ≡ 0 → ⊥) → OkIff r (SFits w32 z) z
      → result_ok r ≡ as_negative (Some v)
  minus_value r zero z e some k = absurd (some refl)
  minus_value (Ok x) (suc v) z e some (fits, is) =
      let f : SFits w32 (negsuc v) = subst (SFits w32) e fits in
      let h : v < 2 ^ 31 = f.sfits in
      rw (lt-ltb 0 (suc v) (omega arith), le-leb (suc v) signed_limit (omega arith)) (ap Some (is ∙ e))
  minus_value (Err x) (suc v) z e some unfit =
      let h : v < 2 ^ 31 → ⊥ = λ l. let f : SFits w32 (negsuc v) = record { sfits = l } in unfit (subst (SFits w32) (sym e) f) in
      rw (lt-ltb 0 (suc v) (omega arith), lt-leb (suc v) signed_limit (omega arith))

pub threshold_none : (l : List ℕ) → length l ≡ 0 → threshold_of l ≡ None
unfolding threshold_of is_signed
threshold_none [] e = refl
threshold_none (b ∷ l) e = absurd (omega arith)

pub threshold_minus : (l : List ℕ) → 1 ≤ length l → get_or l 0 0 ≡ minus → threshold_of l ≡ as_negative (number_of (drop 1 l))
unfolding threshold_of is_signed signed_value number_of is_unsigned
threshold_minus [] some e = absurd (omega arith)
threshold_minus (b ∷ l) some e =
    let v : ℕ = decimal_value 0 l in
    rw (eq-eqb b minus e)
    (minus_tests (is_decimal l) v ∙ sym (after_cond as_negative (is_decimal l && ltb v word_limit) (Some v) None))

pub threshold_plain : (l : List ℕ) → 1 ≤ length l → (get_or l 0 0 ≡ minus → ⊥) → threshold_of l ≡ as_positive (number_of l)
unfolding threshold_of is_signed signed_value number_of is_unsigned
threshold_plain [] some ne = absurd (omega arith)
threshold_plain (b ∷ l) some ne =
    let v : ℕ = decimal_value 0 (b ∷ l) in
    rw (ne_eqb b minus ne)
    (plain_tests (is_decimal (b ∷ l)) v ∙ sym (after_cond as_positive (is_decimal (b ∷ l) && ltb v word_limit) (Some v) None))

-- ---- the last field: the word, or a threshold

same_pointwise : (l r : List ℕ) → same_bytes l r ≡ pointwise eqb l r
same_pointwise [] [] = refl
same_pointwise [] (y ∷ r) = refl
same_pointwise (x ∷ l) [] = refl
same_pointwise (x ∷ l) (y ∷ r) = ap (λ (b : Bool). eqb x y && b) (same_pointwise l r)

-- as the code compares slices
pub is_word : (l : List ℕ) → is_jaccard l ≡ pointwise eqb l jaccard_word
unfolding is_jaccard
is_word l = same_pointwise l jaccard_word

pub same_is : (l r : List ℕ) → same_bytes l r ≡ true → l ≡ r
same_is [] [] e = refl
same_is [] (y ∷ r) e = absurd (false≢true e)
same_is (x ∷ l) [] e = absurd (false≢true e)
same_is (x ∷ l) (y ∷ r) e =
    let first : x ≡ y = eqb-true x y (and_left (eqb x y) (same_bytes l r) e) in
    ap₂ (λ (b : ℕ) (rest : List ℕ). b ∷ rest) first (same_is l r (and_right (eqb x y) (same_bytes l r) e))

pub word_is : (l : List ℕ) → is_jaccard l ≡ true → l ≡ jaccard_word
unfolding is_jaccard
word_is l e = same_is l jaccard_word e

-- how mappings are scored, from the two numbers before the last field and the threshold that was read of it
abbrev pub as_linear : ℕ → ℕ → Option ℤ → Option Scoring
as_linear fourth fifth None = None
as_linear fourth fifth (Some threshold) = Some (Linear fourth fifth threshold)

module _ (fourth fifth : ℕ) (l : List ℕ) where
  pub last_word : is_jaccard l ≡ true → last_field_of fourth fifth l ≡ Some (Jaccard fourth fifth)
  unfolding last_field_of scoring_of
  last_word e = rw e

  pub last_threshold : is_jaccard l ≡ false → last_field_of fourth fifth l ≡ as_linear fourth fifth (threshold_of l)
  unfolding last_field_of scoring_of threshold_of
  last_threshold e = rw e (sym (after_cond (as_linear fourth fifth) (is_signed l) (Some (signed_value l)) None))
