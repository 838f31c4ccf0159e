-- Laws of the first line: read field by field it gives what its definition says.
use Prim.Native.Nat.{ℕ, zero, suc, ◌+◌, ◌-◌, ◌≤◌, ◌<◌}
use native.Mathlib.Omega.{arith}
use mathlib.Core.Path.{◌≡◌, refl, sym, ap, ◌∙◌}
use mathlib.Core.Logic.{◌⊎◌, inl, inr}
use mathlib.Core.Bool.{Bool, true, false, cond, not, ◌&&◌}
use mathlib.Core.List.{List, [], ◌∷◌, ◌++◌}
use lib.Dec.{ltb, leb, eqb}
use lib.ListN.{length, get_or, drop, length-drop}
use lib.Seq.{drop-drop}
use borrow.Author.Tests.{ltb-true, ltb-false, lt-ltb, leb-true, ne_eqb}
use Rattle.base.specs.Lists.{every}
use Rattle.base.proofs.Lists.{and_left, and_right, decided}
use Rattle.base.specs.Limits.{signed_limit}
use Rattle.base.specs.Bytes.{space, minus, digit}
use Rattle.mappings.specs.declared.Scoring.{Scoring}
use Rattle.list_input.specs.Input.{is_digit, is_decimal, decimal_value, is_unsigned, is_signed, is_jaccard, is_last_field, scoring_of}
use Rattle.list_input.specs.Input.{fields, is_first_line, settings_of}
use Rattle.requests.specs.declared.Settings.{Settings}
use Rattle.list_input.specs.declared.Field.{Field}
use Rattle.std.specs.Prelude.{Option, Some, None}
use Rattle.list_input.specs.Answers.{first_part, field_of, last_field_of, first_line_of}
use Rattle.list_input.proofs.Numbers.{after_cond, signed_tests, word_is}
use Rattle.list_input.proofs.Parts.{parts, first_more, parts_one, parts_more, first_le}

cond_same : {A : Type 0} (b : Bool) (x : A) → cond b x x ≡ x
cond_same true x = refl
cond_same false x = refl

cond_and : {A : Type 0} (a b : Bool) (x y : A) → cond (a && b) x y ≡ cond a (cond b x y) y
cond_and true b x y = refl
cond_and false b x y = refl

-- ---- the answer from the numbers so far and the fields that are left

abbrev made : List ℕ → Scoring → Option Settings
made ns scoring = Some (record { k = get_or ns 0 0; w = get_or ns 1 0; c = get_or ns 2 0; scoring = scoring })

-- how mappings are scored, from the numbers so far and the last field
abbrev scoring_by : List ℕ → List ℕ → Scoring
scoring_by ns p = scoring_of (get_or ns 3 0) (get_or ns 4 0) p

abbrev last_field : List ℕ → List (List ℕ) → Option Settings
last_field ns [] = None
last_field ns (p ∷ []) = cond (is_last_field p) (made ns (scoring_by ns p)) None
last_field ns (p ∷ q ∷ ps) = None

-- n numbers and the last field are left
abbrev pub left : ℕ → List ℕ → List (List ℕ) → Option Settings
left zero ns fs = last_field ns fs
left (suc n) ns [] = None
left (suc n) ns (p ∷ ps) = cond (is_unsigned p) (left n (ns ++ decimal_value 0 p ∷ []) ps) None

-- all is left
pub left_all : (fs : List (List ℕ)) → left 5 [] fs ≡ first_line_of fs
unfolding first_line_of is_first_line settings_of
left_all [] = refl
left_all (a ∷ []) = simp cond_same
left_all (a ∷ b ∷ []) = simp cond_same
left_all (a ∷ b ∷ c ∷ []) = simp cond_same
left_all (a ∷ b ∷ c ∷ d ∷ []) = simp cond_same
left_all (a ∷ b ∷ c ∷ d ∷ e ∷ []) = simp cond_same
left_all (a ∷ b ∷ c ∷ d ∷ e ∷ f ∷ []) = simp cond_and
left_all (a ∷ b ∷ c ∷ d ∷ e ∷ f ∷ g ∷ fs) = simp (cond_same, ne_eqb (length (a ∷ b ∷ c ∷ d ∷ e ∷ f ∷ g ∷ fs)) 6 (λ q. omega arith))

-- ---- one field more

left_none : (n : ℕ) (ns : List ℕ) → left n ns [] ≡ None
left_none zero ns = refl
left_none (suc n) ns = refl

module _ (n : ℕ) (ns : List ℕ) (l : List ℕ) where
  -- no space is left: the fields run out
  left_end : length (first_part space l) ≡ length l → left (suc n) ns (fields l) ≡ None
  unfolding fields
  left_end e =
      ap (left (suc n) ns) (parts_one space l e)
      ∙ ap (λ (a : Option Settings). cond (is_unsigned l) a None) (left_none n (ns ++ decimal_value 0 l ∷ []))
      ∙ cond_same (is_unsigned l) None

  left_bad : length (first_part space l) < length l → is_unsigned (first_part space l) ≡ false → left (suc n) ns (fields l) ≡ None
  unfolding fields
  left_bad h e = ap (left (suc n) ns) (parts_more space l h) ∙ rw e

  left_good : length (first_part space l) < length l → is_unsigned (first_part space l) ≡ true
      → left (suc n) ns (fields l) ≡ left n (ns ++ decimal_value 0 (first_part space l) ∷ []) (fields (drop (suc (length (first_part space l))) l))
  unfolding fields
  left_good h e = ap (left (suc n) ns) (parts_more space l h) ∙ rw e

-- what a field that was read says
module _ (line : List ℕ) (from : ℕ) where
  abbrev p : List ℕ
  p = first_part space (drop from line)

  abbrev read : Field
  read = record { value = decimal_value 0 p; next = from + length p + 1 }

  read_good : {f : Field} → field_of line from ≡ Some f → (length p < length (drop from line)) × (is_unsigned p ≡ true) × (read ≡ f)
  unfolding field_of
  read_good {f} e = go (ltb (length p) (length (drop from line))) refl (is_unsigned p) refl
    where
      go : (s : Bool) → ltb (length p) (length (drop from line)) ≡ s → (t : Bool) → is_unsigned p ≡ t
          → (length p < length (drop from line)) × (t ≡ true) × (read ≡ f)
      go true h true t = let same : Some read ≡ Some f = rw (h, t) at e in (ltb-true _ _ h, refl, (cc))
      go true h false t = let none : None ≡ Some f = rw (h, t) at e in (cc)
      go false h t u = let none : None ≡ Some f = rw h at e in (cc)

  read_bad : field_of line from ≡ None → length p < length (drop from line) → is_unsigned p ≡ false
  unfolding field_of
  read_bad e h = go (is_unsigned p) refl
    where
      go : (t : Bool) → is_unsigned p ≡ t → t ≡ false
      go true t = let some : Some read ≡ None = rw (lt-ltb _ _ h, t) at e in (cc)
      go false t = refl

  -- the answer is the same from the next field on
  pub left_field : (n : ℕ) (ns : List ℕ) {f : Field} → field_of line from ≡ Some f
      → left (suc n) ns (fields (drop from line)) ≡ left n (ns ++ f.value ∷ []) (fields (drop f.next line))
  left_field n ns {f} e =
      let good = read_good e in
      let next : from + suc (length p) ≡ from + length p + 1 = omega arith in
      left_good n ns (drop from line) good.0 good.1
      ∙ ap (λ (l : List ℕ). left n (ns ++ decimal_value 0 p ∷ []) (fields l))
      (drop-drop (suc (length p)) from line ∙ ap (λ (k : ℕ). drop k line) next)
      ∙ ap (λ (g : Field). left n (ns ++ g.value ∷ []) (fields (drop g.next line))) good.2

  -- which begins within the line
  pub next_inside : {f : Field} → field_of line from ≡ Some f → f.next ≤ length line
  next_inside {f} e =
      let good = read_good e in
      let h : length p < length (drop from line) = good.0 in
      let long : length (drop from line) ≡ length line - from = length-drop from line in
      let place : from + length p + 1 ≡ f.next = ap (λ (g : Field). g.next) good.2 in
      omega arith

  pub left_malformed : (n : ℕ) (ns : List ℕ) → field_of line from ≡ None → left (suc n) ns (fields (drop from line)) ≡ None
  left_malformed n ns e = go (decided (ltb (length p) (length (drop from line))))
    where
      go : (ltb (length p) (length (drop from line)) ≡ true) ⊎ (ltb (length p) (length (drop from line)) ≡ false)
          → left (suc n) ns (fields (drop from line)) ≡ None
      go (inl t) = let h : length p < length (drop from line) = ltb-true _ _ t in left_bad n ns (drop from line) h (read_bad e h)
      go (inr t) =
          let short : length p ≤ length (drop from line) = first_le space (drop from line) in
          let long : length (drop from line) ≤ length p = ltb-false _ _ t in
          left_end n ns (drop from line) (omega arith)

-- ---- the last field, which is all that is left of the line

-- digits have no space among them
digits_whole : (l : List ℕ) → every is_digit l ≡ true → length (first_part space l) ≡ length l
unfolding first_part
digits_whole [] e = refl
digits_whole (b ∷ l) e =
    let low : 48 ≤ b = leb-true 48 b (and_left (leb 48 b) (leb b 57) (and_left (is_digit b) (every is_digit l) e)) in
    ap length (first_more space b l (ne_eqb b space (λ q. omega arith))) ∙ ap suc (digits_whole l (and_right (is_digit b) (every is_digit l) e))

decimal_digits : (l : List ℕ) → is_decimal l ≡ true → every is_digit l ≡ true
decimal_digits [] e = refl
decimal_digits (b ∷ []) e = rw e
decimal_digits (b ∷ x ∷ l) e = and_right (not (eqb b (digit 0))) (every is_digit (b ∷ x ∷ l)) e

signed_whole : (l : List ℕ) → is_signed l ≡ true → length (first_part space l) ≡ length l
unfolding first_part
signed_whole [] e = refl
signed_whole (b ∷ l) e = go (signed_tests b l e)
  where
    go : ((b ≡ minus) × (is_decimal l ≡ true) × (decimal_value 0 l ≤ signed_limit)) ⊎
        ((is_decimal (b ∷ l) ≡ true) × (decimal_value 0 (b ∷ l) < signed_limit))
        → length (first_part space (b ∷ l)) ≡ suc (length l)
    go (inl t) =
        let is : b ≡ minus = t.0 in
        ap length (first_more space b l (ne_eqb b space (λ q. omega arith))) ∙ ap suc (digits_whole l (decimal_digits l t.1))
    go (inr t) = digits_whole (b ∷ l) (decimal_digits (b ∷ l) t.0)

last_whole : (l : List ℕ) → is_last_field l ≡ true → length (first_part space l) ≡ length l
unfolding first_part
last_whole l e = go (is_jaccard l) refl
  where
    go : (t : Bool) → is_jaccard l ≡ t → length (first_part space l) ≡ length l
    go true t = ap (λ (w : List ℕ). length (first_part space w)) (word_is l t) ∙ sym (ap length (word_is l t))
    go false t = signed_whole l (rw t at e)

more_than_one : (ns p : List ℕ) (l : List ℕ) → last_field ns (p ∷ parts space l) ≡ None
more_than_one ns p [] = refl
more_than_one ns p (b ∷ l) = go (eqb b space) refl (parts space l) refl
  where
    go : (t : Bool) → eqb b space ≡ t → (ps : List (List ℕ)) → parts space l ≡ ps → last_field ns (p ∷ parts space (b ∷ l)) ≡ None
    go true t ps e = rw t
    go false t [] e = rw (t, e)
    go false t (q ∷ qs) e = rw (t, e)

module _ (ns l : List ℕ) where
  -- a space is left: there are too many fields, and what has a space is no last field
  too_many : length (first_part space l) < length l → (t : Bool) → is_last_field l ≡ t
      → last_field ns (parts space l) ≡ cond t (made ns (scoring_by ns l)) None
  too_many h true s = absurd (omega (arith, last_whole l s))
  too_many h false s = ap (last_field ns) (parts_more space l h) ∙ more_than_one ns (first_part space l) (drop (suc (length (first_part space l))) l)

  left_end_of_line : left 0 ns (fields l) ≡ cond (is_last_field l) (made ns (scoring_by ns l)) None
  unfolding fields
  left_end_of_line = go (decided (ltb (length (first_part space l)) (length l)))
    where
      go : (ltb (length (first_part space l)) (length l) ≡ true) ⊎ (ltb (length (first_part space l)) (length l) ≡ false)
          → last_field ns (parts space l) ≡ cond (is_last_field l) (made ns (scoring_by ns l)) None
      go (inl h) = too_many (ltb-true (length (first_part space l)) (length l) h) (is_last_field l) refl
      go (inr h) =
          let short : length (first_part space l) ≤ length l = first_le space l in
          let long : length l ≤ length (first_part space l) = ltb-false (length (first_part space l)) (length l) h in
          ap (last_field ns) (parts_one space l (omega arith))

-- the answer from the numbers and what was read of the last field
abbrev pub as_first_line : List ℕ → Option Scoring → Option Settings
as_first_line ns None = None
as_first_line ns (Some scoring) = made ns scoring

pub left_last : (ns l : List ℕ) → left 0 ns (fields l) ≡ as_first_line ns (last_field_of (get_or ns 3 0) (get_or ns 4 0) l)
unfolding last_field_of
left_last ns l = left_end_of_line ns l ∙ sym (after_cond (as_first_line ns) (is_last_field l) (Some (scoring_by ns l)) None)
