-- Laws of the input and of the request: what each is from the lines, and the lines by their places.
use Prim.Native.Nat.{ℕ, suc, ◌+◌, ◌≤◌, ◌<◌}
use native.Mathlib.Omega.{arith}
use mathlib.Core.Path.{◌≡◌, refl, sym, ap, ap₂, ◌∙◌}
use mathlib.Core.Bool.{Bool, true, false, cond, ◌&&◌}
use mathlib.Core.List.{List, [], ◌∷◌}
use lib.Dec.{leb, eqb}
use lib.ListN.{length, get_or, take, drop}
use borrow.Author.Tests.{le-leb, lt-leb, leb-true}
use Rattle.base.proofs.Lists.{and_left, and_right}
use Rattle.base.specs.Limits.{line_limit}
use Rattle.list_input.specs.Input.{fields, lines, is_first_line, is_well_formed, settings_of, Input, malformed, given, input_of}
use Rattle.base.specs.Bytes.{line_feed}
use Rattle.list_input.specs.Answers.{first_part, first_line_of, request_at, request_from}
use Rattle.requests.specs.declared.Settings.{Settings}
use Rattle.list_input.specs.declared.Request.{Request}
use Rattle.std.specs.Prelude.{Option, Some, None}
use Rattle.list_input.proofs.Parts.{parts, first_take, two_parts, parts_one, parts_more, searched, found, not_found}
use Rattle.list_input.proofs.Numbers.{and_false, and_true, after_cond}

-- the input from its lines
abbrev pub input_from : List (List ℕ) → Input
input_from ls = cond (is_well_formed ls) (given (settings_of (fields (get_or ls 0 []))) (get_or ls 1 []) (get_or ls 2 [])) malformed

pub input_from_lem : (bytes : List ℕ) → input_of bytes ≡ input_from (lines bytes)
unfolding input_of
input_from_lem bytes = refl

-- the request from what was read of the first line, with the lengths of the three lines
abbrev pub as_request : Option Settings → ℕ → ℕ → ℕ → Option Request
as_request None first text read = None
as_request (Some s) first text read = Some (request_at s first text read)

module _ (ls : List (List ℕ)) where
  pub few_lines : length ls < 4 → request_from ls ≡ None
  unfolding is_well_formed
  few_lines h = rw (lt-leb 4 (length ls) h)

  pub long_text : line_limit < length (get_or ls 1 []) → request_from ls ≡ None
  unfolding is_well_formed
  long_text h = simp (lt-leb (length (get_or ls 1 [])) line_limit h, and_false)

  pub long_read : line_limit < length (get_or ls 2 []) → request_from ls ≡ None
  unfolding is_well_formed
  long_read h = simp (lt-leb (length (get_or ls 2 [])) line_limit h, and_false)

  -- else the first line decides
  pub by_first_line : 4 ≤ length ls → length (get_or ls 1 []) ≤ line_limit → length (get_or ls 2 []) ≤ line_limit
      → request_from ls ≡ as_request (first_line_of (fields (get_or ls 0 []))) (length (get_or ls 0 [])) (length (get_or ls 1 [])) (length (get_or ls 2 []))
  unfolding is_well_formed first_line_of
  by_first_line enough text read =
      let fs : List (List ℕ) = fields (get_or ls 0 []) in
      simp (le-leb 4 (length ls) enough, le-leb (length (get_or ls 1 [])) line_limit text, le-leb (length (get_or ls 2 [])) line_limit read, and_true)
      (sym
      (after_cond (λ (a : Option Settings). as_request a (length (get_or ls 0 [])) (length (get_or ls 1 [])) (length (get_or ls 2 []))) (is_first_line fs)
      (Some (settings_of fs))
      None))

-- what a well-formed input has
pub well_formed_lines : (ls : List (List ℕ)) → is_well_formed ls ≡ true
    → (4 ≤ length ls) × (is_first_line (fields (get_or ls 0 [])) ≡ true) × (length (get_or ls 1 []) ≤ line_limit) × (length (get_or ls 2 []) ≤ line_limit)
unfolding is_well_formed
well_formed_lines ls e =
    let four : Bool = leb 4 (length ls) in
    let first : Bool = is_first_line (fields (get_or ls 0 [])) in
    let text : Bool = leb (length (get_or ls 1 [])) line_limit in
    let read : Bool = leb (length (get_or ls 2 [])) line_limit in
    let e₂ : (four && first && text) ≡ true = and_left (four && first && text) read e in
    let e₁ : (four && first) ≡ true = and_left (four && first) text e₂ in (
      leb-true 4 (length ls) (and_left four first e₁),
      and_right four first e₁,
      leb-true (length (get_or ls 1 [])) line_limit (and_right (four && first) text e₂),
      leb-true (length (get_or ls 2 [])) line_limit (and_right (four && first && text) read e),
    )

-- ---- three lines with their line feeds

-- what stands before the first line feed of the bytes, before the second and before the third; and what stands behind each
module _ (bytes : List ℕ) where
  abbrev pub first : List ℕ
  first = first_part line_feed bytes

  abbrev pub behind₁ : List ℕ
  behind₁ = drop (suc (length first)) bytes

  abbrev pub second : List ℕ
  second = first_part line_feed behind₁

  abbrev pub behind₂ : List ℕ
  behind₂ = drop (suc (length second)) behind₁

  abbrev pub third : List ℕ
  third = first_part line_feed behind₂

  abbrev pub behind₃ : List ℕ
  behind₃ = drop (suc (length third)) behind₂

  pub record ThreeLines : Type 0 where
    pub one : length first < length bytes
    pub two : length second < length behind₁
    pub three : length third < length behind₂
    pub these : lines bytes ≡ first ∷ second ∷ third ∷ parts line_feed behind₃

  pub three_lines : 4 ≤ length (lines bytes) → ThreeLines
  unfolding lines
  three_lines h =
      let one = two_parts line_feed bytes (omega arith) in
      let e₁ : parts line_feed bytes ≡ first ∷ parts line_feed behind₁ = parts_more line_feed bytes one in
      let l₁ : length (parts line_feed bytes) ≡ suc (length (parts line_feed behind₁)) = ap length e₁ in
      let two = two_parts line_feed behind₁ (omega arith) in
      let e₂ : parts line_feed behind₁ ≡ second ∷ parts line_feed behind₂ = parts_more line_feed behind₁ two in
      let l₂ : length (parts line_feed behind₁) ≡ suc (length (parts line_feed behind₂)) = ap length e₂ in
      let three = two_parts line_feed behind₂ (omega arith) in
      record {
        one = one;
        two = two;
        three = three;
        these =
            e₁
            ∙ ap (λ (ls : List (List ℕ)). first ∷ ls) (e₂ ∙ ap (λ (ls : List (List ℕ)). second ∷ ls) (parts_more line_feed behind₂ three));
      }

-- ---- the lines by their places

-- there is always a part
pub some_part : (b : ℕ) (l : List ℕ) → 1 ≤ length (parts b l)
some_part b [] = omega arith
some_part b (x ∷ l) = go (eqb x b) refl (parts b l) refl
  where
    go : (t : Bool) → eqb x b ≡ t → (ps : List (List ℕ)) → parts b l ≡ ps → 1 ≤ length (parts b (x ∷ l))
    go true t ps e = rw t (omega arith)
    go false t [] e = rw (t, e) (omega arith)
    go false t (p ∷ ps) e = rw (t, e) (omega arith)

-- the first line of all bytes
module _ (bytes : List ℕ) where
  pub first_end : searched line_feed bytes ≡ None → lines bytes ≡ bytes ∷ []
  unfolding lines
  first_end e = parts_one line_feed bytes (not_found line_feed bytes e)

  pub first_more : {n : ℕ} → searched line_feed bytes ≡ Some n → lines bytes ≡ take n bytes ∷ parts line_feed (drop (n + 1) bytes)
  unfolding lines
  first_more {n} e =
      let at = found line_feed bytes e in
      let place : n ≡ length (first_part line_feed bytes) = at.0 in
      let next : suc (length (first_part line_feed bytes)) ≡ n + 1 = omega arith in
      parts_more line_feed bytes (omega (arith, at.1))
      ∙ ap₂ (λ (p : List ℕ) (r : List ℕ). p ∷ parts line_feed r)
      (first_take line_feed bytes ∙ ap (λ (k : ℕ). take k bytes) (sym place))
      (ap (λ (k : ℕ). drop k bytes) next)
