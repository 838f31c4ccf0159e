-- `read_last_field` meets its contract: the word, else what the threshold makes.
use Rattle.std.proofs.Common.{arith, sym, ap, ◌∙◌}
use mir.Facts.{to_z-of_z}
use Rattle.list_input.proofs.Numbers.{as_linear, is_word, last_word, last_threshold}
use Rattle.list_input.proofs.read_last_field.Goals as goal

pub returns-then-eq : goal.returns-then-eq
returns-then-eq c = sym (last_word c.args.fourth c.args.fifth c.args.bytes.now (is_word c.args.bytes.now ∙ (cc)))

pub returns-in_err-read_signed : goal.returns-in_err-read_signed
returns-in_err-read_signed c =
    c.from_residual.ensures
    ∙ sym
    (last_threshold c.args.fourth c.args.fifth c.args.bytes.now (is_word c.args.bytes.now ∙ (cc))
    ∙ ap (as_linear c.args.fourth c.args.fifth) (sym c.read_signed.ensures ∙ c.in_err-read_signed.was))

pub returns : goal.returns
returns c =
    let read = last_threshold c.args.fourth c.args.fifth c.args.bytes.now (is_word c.args.bytes.now ∙ (cc)) in
    grind (arith, to_z-of_z, c.read_signed.ensures, c.in_ok-read_signed.was)
