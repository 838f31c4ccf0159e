use mathlib.Core.Path.{sym, ap, ◌∙◌}
use mathlib.Core.Bool.{false≢true}
use Rattle.session_cells.specs.Passing.{Update}
use Rattle.session_cells.proofs.Fitting.{fits_all, fits_not, passed_as, pass_none}
use Rattle.session_cells.proofs.cells.pass.Goals as goal

pub returns-in_default : goal.returns-in_default
returns-in_default c =
    let unfit = fits_not c.args.line c.args.part.now c.args.from c.args.to (λ f. c.in_default.ensures.cases f.0) in
    let e = sym (pass_none c.args.line c.args.from c.args.to c.args.m c.args.highest c.args.part.now unfit) in
    record { value = c.passed.ensures ∙ ap (λ (u : Update). u.answer) e; part_after = ap (λ (u : Update). u.part) e }

pub returns-then-not-fits : goal.returns-then-not-fits
returns-then-not-fits c =
    let unfit = fits_not c.args.line c.args.part.now c.args.from c.args.to
    (λ f. false≢true (sym c.if-not-fits.true ∙ c.fits.ensures.1 (f.1, f.2, f.3))) in
    let e = sym (pass_none c.args.line c.args.from c.args.to c.args.m c.args.highest c.args.part.now unfit) in
    record {
      value = c.passed-then-not-fits.ensures ∙ ap (λ (u : Update). u.answer) e;
      part_after = c.in-Some.ensures.cases.same ∙ ap (λ (u : Update). u.part) e;
    }

pub returns-then-line : goal.returns-then-line
returns-then-line c =
    let rows = c.fits.ensures.0 c.if-not-fits.false in
    let whole = c.in-Some.ensures.cases in
    let e = passed_as c.args.line c.args.from c.args.to c.args.m c.args.highest c.args.part.now
    (fits_all c.args.line c.args.part.now c.args.from c.args.to whole.long rows.0 rows.1 rows.2) whole.same in
    record {
      value = c.pass_blocks.ensures.value ∙ ap (λ (u : Update). u.answer) e;
      part_after = c.pass_blocks.ensures.part_after ∙ ap (λ (u : Update). u.part) e;
    }

pub returns-else-line : goal.returns-else-line
returns-else-line c =
    let rows = c.fits.ensures.0 c.if-not-fits.false in
    let whole = c.in-Some.ensures.cases in
    let e = passed_as c.args.line c.args.from c.args.to c.args.m c.args.highest c.args.part.now
    (fits_all c.args.line c.args.part.now c.args.from c.args.to whole.long rows.0 rows.1 rows.2) whole.same in
    record {
      value = c.pass_blocks-else-line.ensures.value ∙ ap (λ (u : Update). u.answer) e;
      part_after = c.pass_blocks-else-line.ensures.part_after ∙ ap (λ (u : Update). u.part) e;
    }
