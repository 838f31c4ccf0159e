-- `read_input` meets its contract: the lines found are the first three of the bytes' lines.
use Rattle.std.proofs.Common.{arith, sym, ◌∙◌}
use Rattle.list_input.proofs.Searches.{no_first, no_second, no_third, text_too_long, read_too_long, first_line_decides}
use Rattle.list_input.proofs.read_input.Goals as goal

pub returns-in_err-first_end : goal.returns-in_err-first_end
returns-in_err-first_end c = c.from_residual.ensures ∙ sym (no_first c.args.bytes.now (sym c.find.ensures ∙ c.in_err-first_end.was))

pub returns-in_err-text_end : goal.returns-in_err-text_end
returns-in_err-text_end c =
    c.from_residual-in_err-text_end.ensures
    ∙ sym (no_second c.args.bytes.now (sym c.find.ensures ∙ c.in_ok-first_end.was) (sym c.find-2.ensures ∙ c.in_err-text_end.was))

pub returns-in_err-read_end : goal.returns-in_err-read_end
returns-in_err-read_end c =
    c.from_residual-in_err-read_end.ensures
    ∙ sym
    (no_third c.args.bytes.now (sym c.find.ensures ∙ c.in_ok-first_end.was) (sym c.find-2.ensures ∙ c.in_ok-text_end.was)
    (sym c.find-3.ensures ∙ c.in_err-read_end.was))

pub returns-then-text_end-text-gt-PATTERN_LIMIT : goal.returns-then-text_end-text-gt-PATTERN_LIMIT
returns-then-text_end-text-gt-PATTERN_LIMIT c =
    grind (
      arith,
      text_too_long c.args.bytes.now (sym c.find.ensures ∙ c.in_ok-first_end.was) (sym c.find-2.ensures ∙ c.in_ok-text_end.was)
          (sym c.find-3.ensures ∙ c.in_ok-read_end.was),
      read_too_long c.args.bytes.now (sym c.find.ensures ∙ c.in_ok-first_end.was) (sym c.find-2.ensures ∙ c.in_ok-text_end.was)
          (sym c.find-3.ensures ∙ c.in_ok-read_end.was),
    )

pub returns-in_err-read_first_line : goal.returns-in_err-read_first_line
returns-in_err-read_first_line c =
    c.from_residual-in_err-read_first_line.ensures
    ∙ sym
    (first_line_decides c.args.bytes.now (sym c.find.ensures ∙ c.in_ok-first_end.was) (sym c.find-2.ensures ∙ c.in_ok-text_end.was)
    (sym c.find-3.ensures ∙ c.in_ok-read_end.was)
    (omega arith)
    (omega arith)
    (sym c.read_first_line.ensures ∙ c.in_err-read_first_line.was))

pub returns : goal.returns
returns c =
    sym
    (first_line_decides c.args.bytes.now (sym c.find.ensures ∙ c.in_ok-first_end.was) (sym c.find-2.ensures ∙ c.in_ok-text_end.was)
    (sym c.find-3.ensures ∙ c.in_ok-read_end.was)
    (omega arith)
    (omega arith)
    (sym c.read_first_line.ensures ∙ c.in_ok-read_first_line.was))
