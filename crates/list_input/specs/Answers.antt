-- What the readers of the input answer: each answer set beside the definitions of `Input`.
use Rattle.std.specs.Prelude.{ℕ, ℤ, ◌+◌, ◌-◌, ◌≤◌, cond, ◌&&◌, List, [], ltb, eqb, length, get_or, take, drop, Option, Some, None}
use Rattle.base.specs.Lists.{every, parts_between}
use Rattle.base.specs.Limits.{line_limit, word_limit}
use Rattle.base.specs.Bytes.{space}
use Rattle.mappings.specs.declared.Scoring.{Scoring}
use Rattle.requests.specs.declared.Settings.{Settings}
use Rattle.list_input.specs.Input.{is_digit, decimal_value, is_unsigned, is_signed, signed_value, lines, fields, is_first_line, is_well_formed}
use Rattle.list_input.specs.Input.{is_last_field, scoring_of, settings_of, Input, malformed, given}
use Rattle.list_input.specs.declared.Field.{Field}
use Rattle.list_input.specs.declared.Request.{Request}

-- what stands before the first byte b: all bytes where there is none
unfoldable pub first_part : ℕ → List ℕ → List ℕ
first_part b bytes = get_or (parts_between (λ (x : ℕ). eqb x b) bytes) 0 []

-- the number of 32 bits with these digits behind the ones of n
unfoldable pub digits_of : ℕ → List ℕ → Option ℕ
digits_of n bytes = cond (every is_digit bytes && ltb (decimal_value n bytes) word_limit) (Some (decimal_value n bytes)) None

unfoldable pub number_of : List ℕ → Option ℕ
number_of bytes = cond (is_unsigned bytes) (Some (decimal_value 0 bytes)) None

unfoldable pub threshold_of : List ℕ → Option ℤ
threshold_of bytes = cond (is_signed bytes) (Some (signed_value bytes)) None

-- how mappings are scored, from the last field and the two numbers before it
unfoldable pub last_field_of : ℕ → ℕ → List ℕ → Option Scoring
last_field_of fourth fifth bytes = cond (is_last_field bytes) (Some (scoring_of fourth fifth bytes)) None

-- a number of 32 bits from an index on with a space behind it, and the index behind the space
unfoldable pub field_of : List ℕ → ℕ → Option Field
field_of line from =
    cond
    (ltb (length (first_part space (drop from line))) (length (drop from line)) && is_unsigned (first_part space (drop from line)))
    (Some
    (record { value = decimal_value 0 (first_part space (drop from line)); next = from + length (first_part space (drop from line)) + 1 }))
    None

-- what a first line with these fields asks for
unfoldable pub first_line_of : List (List ℕ) → Option Settings
first_line_of fs = cond (is_first_line fs) (Some (settings_of fs)) None

-- what the first line asks for, and where the text line and the read line stand, from the lengths of the first three lines: each begins
-- behind the line feed of the one before it
abbrev pub request_at : Settings → ℕ → ℕ → ℕ → Request
request_at s first text read = record {
  settings = s;
  text = first + 1;
  text_end = first + 1 + text;
  read = first + 1 + text + 1;
  read_end = first + 1 + text + 1 + read;
}

-- what stands in these lines
abbrev pub request_from : List (List ℕ) → Option Request
request_from ls =
    cond (is_well_formed ls)
    (Some (request_at (settings_of (fields (get_or ls 0 []))) (length (get_or ls 0 [])) (length (get_or ls 1 [])) (length (get_or ls 2 []))))
    None

-- what `read_input` answers
unfoldable pub request_of : List ℕ → Option Request
request_of bytes = request_from (lines bytes)

-- the bytes from an index up to, not including, another
abbrev pub part : ℕ → ℕ → List ℕ → List ℕ
part from end bytes = take (end - from) (drop from bytes)

-- the input that a request stands for
abbrev pub request_input : Option Request → List ℕ → Input
request_input None bytes = malformed
request_input (Some r) bytes = given r.settings (part r.text r.text_end bytes) (part r.read r.read_end bytes)

-- the two lines of a request lie within the bytes, and are not too long
pub record LinesInside (r : Request) (bytes : List ℕ) : Type 0 where
  pub text_order : r.text ≤ r.text_end
  pub text_inside : r.text_end ≤ length bytes
  pub text_short : r.text_end - r.text ≤ line_limit
  pub read_order : r.read ≤ r.read_end
  pub read_inside : r.read_end ≤ length bytes
  pub read_short : r.read_end - r.read ≤ line_limit

abbrev pub Inside : Option Request → List ℕ → Type 0
Inside None bytes = Unit {0}
Inside (Some r) bytes = LinesInside r bytes
