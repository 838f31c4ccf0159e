-- `read_first_line` meets its contract: each field that is read leaves the same answer, and the last one decides.
use Rattle.std.proofs.Common.{arith, sym, ap, refl, ◌∙◌, ◌≡◌, ◌≤◌, ◌<◌, ◌+◌, ◌-◌, ℕ, suc, List, [], ◌∷◌, ◌++◌, length, Option, Some, None}
use native.Mathlib.Numerals.{add-one}
use lib.ListN.{get_or, set, take, drop, length-set}
use lib.Seq.{take-suc-set, take_all}
use Rattle.mappings.specs.declared.Scoring.{Scoring}
use Rattle.list_input.specs.Input.{fields}
use Rattle.list_input.specs.Answers.{field_of, last_field_of, first_line_of}
use Rattle.list_input.specs.declared.Field.{Field}
use Rattle.list_line.proofs.Buffers.{part_to_end}
use Rattle.list_input.proofs.Fields.{left, left_all, left_field, next_inside, left_malformed, as_first_line, left_last}
use Rattle.list_input.proofs.read_first_line.Goals as goal

module _ (line numbers : List ℕ) (at i : ℕ) (long : length numbers ≡ 5)
    (same : left (5 - i) (take i numbers) (fields (drop at line)) ≡ first_line_of (fields line)) where
  one_more : i < 5 → left (suc (5 - (i + 1))) (take i numbers) (fields (drop at line)) ≡ first_line_of (fields line)
  one_more h = let e : suc (5 - (i + 1)) ≡ 5 - i = omega arith in ap (λ (n : ℕ). left n (take i numbers) (fields (drop at line))) e ∙ same

  next_field : i < 5 → {f : Field} → field_of line at ≡ Some f
      → left (5 - (i + 1)) (take (i + 1) (set numbers i f.value)) (fields (drop f.next line)) ≡ first_line_of (fields line)
  next_field h {f} e =
      let taken : take (i + 1) (set numbers i f.value) ≡ take i numbers ++ f.value ∷ [] = ap (λ (n : ℕ). take n (set numbers i f.value)) (add-one i)
      ∙ take-suc-set numbers i f.value (omega arith) in
      ap (λ (ns : List ℕ). left (5 - (i + 1)) ns (fields (drop f.next line))) taken
      ∙ sym (left_field line at (5 - (i + 1)) (take i numbers) e)
      ∙ one_more h

  no_field : i < 5 → field_of line at ≡ None → first_line_of (fields line) ≡ None
  no_field h e = sym (one_more h) ∙ left_malformed line at (5 - (i + 1)) (take i numbers) e

  -- what the last field makes of the fourth and the fifth number
  abbrev last_of : List ℕ → Option Scoring
  last_of = last_field_of (get_or numbers 3 0) (get_or numbers 4 0)

  all_read : 5 ≤ i → i ≤ 5 → at ≤ length line → {read other : Option Scoring} → read ≡ last_of (take (length line - at) (drop at line)) → read ≡ other
      → first_line_of (fields line) ≡ as_first_line numbers other
  all_read h k inside {read} {other} is e =
      let five : 5 - i ≡ 0 = omega arith in
      sym same
      ∙ ap (λ (n : ℕ). left n (take i numbers) (fields (drop at line))) five
      ∙ left_last (take i numbers) (drop at line)
      ∙ ap (λ (ns : List ℕ). as_first_line ns (last_field_of (get_or ns 3 0) (get_or ns 4 0) (drop at line))) (take_all i numbers (omega arith))
      ∙ ap (as_first_line numbers) (sym (sym e ∙ is ∙ ap last_of (part_to_end line (length line) at (omega arith))))

pub loop-number-init : goal.loop-number-init
loop-number-init c = (omega arith, refl, left_all _)

pub returns-in_err-field : goal.returns-in_err-field
returns-in_err-field c =
    c.from_residual.ensures
    ∙ sym
    (no_field c.args.line.now c.loop-number.number-items c.loop-number.at c.loop-number.number-index c.loop-number.invariant.1 c.loop-number.invariant.2
    (omega arith)
    (sym c.read_field.ensures ∙ c.in_err-field.was))

pub loop-number-preserved : goal.loop-number-preserved
loop-number-preserved c =
    let read : field_of c.args.line.now c.loop-number.at ≡ Some c.in_ok-field.field = sym c.read_field.ensures ∙ c.in_ok-field.was in (
      next_inside c.args.line.now c.loop-number.at read,
      length-set _ _ _ ∙ c.loop-number.invariant.1,
      next_field c.args.line.now c.loop-number.number-items c.loop-number.at c.loop-number.number-index c.loop-number.invariant.1
          c.loop-number.invariant.2
          (omega arith)
          read,
    )

pub returns-in_err-scoring : goal.returns-in_err-scoring
returns-in_err-scoring c =
    c.from_residual-in_err-scoring.ensures
    ∙ sym
    (all_read c.args.line.now c.loop-number.number-items c.loop-number.at c.loop-number.number-index c.loop-number.invariant.1 c.loop-number.invariant.2
    (omega arith)
    (omega arith)
    c.loop-number.invariant.0
    c.read_last_field.ensures
    c.in_err-scoring.was)

pub returns : goal.returns
returns c =
    sym
    (all_read c.args.line.now c.loop-number.number-items c.loop-number.at c.loop-number.number-index c.loop-number.invariant.1 c.loop-number.invariant.2
    (omega arith)
    (omega arith)
    c.loop-number.invariant.0
    c.read_last_field.ensures
    c.in_ok-scoring.was)
