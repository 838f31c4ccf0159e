-- `read_field` meets its contract: the bytes up to the first space are read as a number.
use Rattle.std.proofs.Common.{arith, sym, ap, ◌∙◌, ◌≡◌, ◌≤◌, ◌<◌, ◌+◌, ℕ, List, length, Option, Some, None}
use lib.ListN.{take, drop}
use Rattle.base.specs.Bytes.{space}
use Rattle.list_input.specs.Answers.{first_part, number_of, field_of}
use Rattle.list_input.proofs.Numbers.{as_field, field_none, field_some}
use Rattle.list_input.proofs.Parts.{searched, lent, lent_is, lent_none, place, found_place, found_part}
use Rattle.list_input.proofs.read_field.Goals as goal

module _ (line : List ℕ) (from : ℕ) (inside : from ≤ length line) where
  abbrev rest : List ℕ
  rest = lent space line from inside

  no_space : searched space rest ≡ None → field_of line from ≡ None
  no_space e = field_none line from (lent_none space line from inside e)

  by_number : {n : ℕ} → searched space rest ≡ Some n → {read : Option ℕ} → number_of (take n rest) ≡ read → field_of line from ≡ as_field (from + n + 1) read
  by_number {n} e {read} is =
      let here : n ≡ length (first_part space (drop from line)) = found_place space line from inside e in
      let within : n < length (drop from line) = ((place space line from inside e).1) in
      field_some line from (omega arith)
      ∙ ap (λ (k : ℕ). as_field (from + k + 1) (number_of (first_part space (drop from line)))) (sym here)
      ∙ ap (λ (p : List ℕ). as_field (from + n + 1) (number_of p))
      (sym (found_part space line from inside e) ∙ ap (take n) (sym (lent_is space line from inside)))
      ∙ ap (as_field (from + n + 1)) is

pub returns-in_err-n : goal.returns-in_err-n
returns-in_err-n c = c.from_residual.ensures ∙ sym (no_space c.args.line.now c.args.from c.requires (sym c.find.ensures ∙ c.in_err-n.was))

pub returns-in_err-read_number : goal.returns-in_err-read_number
returns-in_err-read_number c =
    c.from_residual-in_err-read_number.ensures
    ∙ sym
    (by_number c.args.line.now c.args.from c.requires (sym c.find.ensures ∙ c.in_ok-n.was)
    (sym c.read_number.ensures ∙ c.in_err-read_number.was))

pub returns : goal.returns
returns c =
    sym
    (by_number c.args.line.now c.args.from c.requires (sym c.find.ensures ∙ c.in_ok-n.was)
    (sym c.read_number.ensures ∙ c.in_ok-read_number.was))
