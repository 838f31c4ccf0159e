-- Three searches for a line feed, each from the place behind the one that the search before it found: what they say of the request.
use Prim.Native.Nat.{ℕ, ◌+◌, ◌≤◌, ◌<◌}
use native.Mathlib.Omega.{arith}
use mathlib.Core.Path.{◌≡◌, ap, ◌∙◌}
use mathlib.Core.List.{List, ◌∷◌}
use lib.ListN.{length, take, drop, length-drop}
use lib.Seq.{length-take-le}
use Rattle.std.specs.Prelude.{Option, Some, None}
use Rattle.base.specs.Limits.{line_limit}
use Rattle.base.specs.Bytes.{line_feed}
use Rattle.requests.specs.declared.Settings.{Settings}
use Rattle.list_input.specs.Input.{lines, fields}
use Rattle.list_input.specs.Answers.{first_line_of, request_from, request_of}
use Rattle.list_input.proofs.Parts.{parts, searched, found, lent, found_inside, found_end, found_more}
use Rattle.list_input.proofs.Lines.{as_request, few_lines, long_text, long_read, by_first_line, some_part, first_end, first_more}

-- a malformed input, by its lines
refused : (bytes : List ℕ) {ls : List (List ℕ)} → lines bytes ≡ ls → request_from ls ≡ None → request_of bytes ≡ None
unfolding request_of
refused bytes e m = ap request_from e ∙ m

module _ (bytes : List ℕ) where
  pub no_first : searched line_feed bytes ≡ None → request_of bytes ≡ None
  no_first e = refused bytes (first_end bytes e) (few_lines _ (omega arith))

  -- a first line
  module _ {n₁ : ℕ} (e₁ : searched line_feed bytes ≡ Some n₁) where
    abbrev text : ℕ
    text = n₁ + 1

    inside₁ : n₁ < length bytes
    inside₁ = (found line_feed bytes e₁).1

    pub text_inside : text ≤ length bytes
    text_inside = omega (arith, inside₁)

    lines₁ : lines bytes ≡ take n₁ bytes ∷ parts line_feed (drop text bytes)
    lines₁ = first_more bytes e₁

    pub no_second : searched line_feed (lent line_feed bytes text text_inside) ≡ None → request_of bytes ≡ None
    no_second e =
        refused bytes (lines₁ ∙ ap (λ (ls : List (List ℕ)). take n₁ bytes ∷ ls) (found_end line_feed bytes text text_inside e))
        (few_lines _ (omega arith))

    -- a text line
    module _ {n₂ : ℕ} (e₂ : searched line_feed (lent line_feed bytes text text_inside) ≡ Some n₂) where
      abbrev read : ℕ
      read = text + n₂ + 1

      inside₂ : text + n₂ < length bytes
      inside₂ = found_inside line_feed bytes text text_inside e₂

      pub read_inside : read ≤ length bytes
      read_inside = omega (arith, inside₂)

      lines₂ : lines bytes ≡ take n₁ bytes ∷ take n₂ (drop text bytes) ∷ parts line_feed (drop read bytes)
      lines₂ = lines₁ ∙ ap (λ (ls : List (List ℕ)). take n₁ bytes ∷ ls) (found_more line_feed bytes text text_inside e₂)

      pub no_third : searched line_feed (lent line_feed bytes read read_inside) ≡ None → request_of bytes ≡ None
      no_third e =
          refused bytes
          (lines₂ ∙ ap (λ (ls : List (List ℕ)). take n₁ bytes ∷ take n₂ (drop text bytes) ∷ ls) (found_end line_feed bytes read read_inside e))
          (few_lines _ (omega arith))

      -- a read line
      module _ {n₃ : ℕ} (e₃ : searched line_feed (lent line_feed bytes read read_inside) ≡ Some n₃) where
        abbrev rest : List (List ℕ)
        rest = parts line_feed (drop (read + n₃ + 1) bytes)

        inside₃ : read + n₃ < length bytes
        inside₃ = found_inside line_feed bytes read read_inside e₃

        lines₃ : lines bytes ≡ take n₁ bytes ∷ take n₂ (drop text bytes) ∷ take n₃ (drop read bytes) ∷ rest
        lines₃ =
            lines₂ ∙ ap (λ (ls : List (List ℕ)). take n₁ bytes ∷ take n₂ (drop text bytes) ∷ ls) (found_more line_feed bytes read read_inside e₃)

        length_first : length (take n₁ bytes) ≡ n₁
        length_first = length-take-le _ _ (omega (arith, inside₁))

        length_text : length (take n₂ (drop text bytes)) ≡ n₂
        length_text = length-take-le _ _ (omega (arith, length-drop text bytes, inside₂))

        length_read : length (take n₃ (drop read bytes)) ≡ n₃
        length_read = length-take-le _ _ (omega (arith, length-drop read bytes, inside₃))

        pub text_too_long : line_limit < n₂ → request_of bytes ≡ None
        text_too_long h = refused bytes lines₃ (long_text _ (omega (arith, length_text)))

        pub read_too_long : line_limit < n₃ → request_of bytes ≡ None
        read_too_long h = refused bytes lines₃ (long_read _ (omega (arith, length_read)))

        pub first_line_decides : n₂ ≤ line_limit → n₃ ≤ line_limit → {read : Option Settings} → first_line_of (fields (take n₁ bytes)) ≡ read
            → request_of bytes ≡ as_request read n₁ n₂ n₃
        unfolding request_of
        first_line_decides short₂ short₃ {read = answer} e =
            ap request_from lines₃
            ∙ by_first_line (take n₁ bytes ∷ take n₂ (drop text bytes) ∷ take n₃ (drop read bytes) ∷ rest)
            (omega (arith, some_part line_feed (drop (read + n₃ + 1) bytes)))
            (omega (arith, length_text))
            (omega (arith, length_read))
            ∙ (λ i. as_request (e i) (length_first i) (length_text i) (length_read i))
