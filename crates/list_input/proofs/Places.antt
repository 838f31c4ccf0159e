-- The request of an input stands for that input: its indices are those of the text line and the read line, which lie within the bytes.
use Prim.Native.Nat.{ℕ, suc, ◌+◌, ◌-◌}
use native.Mathlib.Omega.{arith}
use mathlib.Core.Path.{◌≡◌, refl, sym, ap, ◌∙◌}
use mathlib.Core.Bool.{Bool, true, false}
use mathlib.Core.List.{List, []}
use lib.ListN.{length, get_or, take, drop, length-drop}
use lib.Seq.{drop-drop}
use Rattle.base.specs.Bytes.{line_feed}
use Rattle.list_input.specs.Input.{lines, fields, is_well_formed, settings_of, given, input_of}
use Rattle.list_input.specs.Answers.{request_at, request_of, part, request_input, LinesInside, Inside}
use Rattle.list_input.specs.declared.Request.{Request}
use Rattle.list_input.proofs.Parts.{first_take}
use Rattle.list_input.proofs.Lines.{well_formed_lines, first, behind₁, second, behind₂, third, ThreeLines, three_lines}

module _ (bytes : List ℕ) (w : is_well_formed (lines bytes) ≡ true) where
  these : ThreeLines bytes
  these = three_lines bytes (well_formed_lines (lines bytes) w).0

  -- the indices of the two lines
  abbrev text : ℕ
  text = length (get_or (lines bytes) 0 []) + 1

  abbrev read : ℕ
  read = text + length (get_or (lines bytes) 1 []) + 1

  first_is : length (get_or (lines bytes) 0 []) ≡ length (first bytes)
  first_is = ap (λ (ls : List (List ℕ)). length (get_or ls 0 [])) these.these

  second_is : get_or (lines bytes) 1 [] ≡ second bytes
  second_is = ap (λ (ls : List (List ℕ)). get_or ls 1 []) these.these

  third_is : get_or (lines bytes) 2 [] ≡ third bytes
  third_is = ap (λ (ls : List (List ℕ)). get_or ls 2 []) these.these

  from_text : drop text bytes ≡ behind₁ bytes
  from_text = let e : text ≡ suc (length (first bytes)) = omega (arith, first_is) in ap (λ (n : ℕ). drop n bytes) e

  from_read : drop read bytes ≡ behind₂ bytes
  from_read =
      let l : length (get_or (lines bytes) 1 []) ≡ length (second bytes) = ap length second_is in
      let e : read ≡ suc (length (first bytes)) + suc (length (second bytes)) = omega (arith, first_is) in
      ap (λ (n : ℕ). drop n bytes) e ∙ sym (drop-drop (suc (length (second bytes))) (suc (length (first bytes))) bytes)

  text_line : part text (text + length (get_or (lines bytes) 1 [])) bytes ≡ get_or (lines bytes) 1 []
  text_line =
      let n : text + length (get_or (lines bytes) 1 []) - text ≡ length (second bytes) = omega (arith, ap length second_is) in
      ap (λ (k : ℕ). take k (drop text bytes)) n ∙ ap (take (length (second bytes))) from_text ∙ sym (first_take line_feed (behind₁ bytes))
      ∙ sym second_is

  read_line : part read (read + length (get_or (lines bytes) 2 [])) bytes ≡ get_or (lines bytes) 2 []
  read_line =
      let n : read + length (get_or (lines bytes) 2 []) - read ≡ length (third bytes) = omega (arith, ap length third_is) in
      ap (λ (k : ℕ). take k (drop read bytes)) n ∙ ap (take (length (third bytes))) from_read ∙ sym (first_take line_feed (behind₂ bytes))
      ∙ sym third_is

  abbrev these_lines : Request
  these_lines =
      request_at (settings_of (fields (get_or (lines bytes) 0 []))) (length (get_or (lines bytes) 0 [])) (length (get_or (lines bytes) 1 []))
      (length (get_or (lines bytes) 2 []))

  lines_inside : LinesInside these_lines bytes
  lines_inside =
      let limits = well_formed_lines (lines bytes) w in
      let a : length (behind₁ bytes) ≡ length bytes - suc (length (first bytes)) = length-drop (suc (length (first bytes))) bytes in
      let b : length (behind₂ bytes) ≡ length (behind₁ bytes) - suc (length (second bytes)) =
      length-drop (suc (length (second bytes))) (behind₁ bytes) in
      record {
        text_order = omega arith;
        text_inside = omega (arith, first_is, ap length second_is, these.one, these.two);
        text_short = omega (arith, limits.2);
        read_order = omega arith;
        read_inside = omega (arith, first_is, ap length second_is, ap length third_is, these.one, these.two, these.three);
        read_short = omega (arith, limits.3);
      }

pub request_input_lem : (bytes : List ℕ) → request_input (request_of bytes) bytes ≡ input_of bytes
unfolding request_of input_of
request_input_lem bytes = go (is_well_formed (lines bytes)) refl
  where
    go : (t : Bool) → is_well_formed (lines bytes) ≡ t → request_input (request_of bytes) bytes ≡ input_of bytes
    go true t = rw t (λ i. given (settings_of (fields (get_or (lines bytes) 0 []))) (text_line bytes t i) (read_line bytes t i))
    go false t = rw t

pub request_inside : (bytes : List ℕ) → Inside (request_of bytes) bytes
unfolding request_of
request_inside bytes = go (is_well_formed (lines bytes)) refl
  where
    go : (t : Bool) → is_well_formed (lines bytes) ≡ t → Inside (request_of bytes) bytes
    go true t = rw t (lines_inside bytes t)
    go false t = rw t tt
