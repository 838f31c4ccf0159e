use Prim.Native.Nat.{◌+◌}
use native.Mathlib.Omega.{arith}
use mathlib.Core.Path.{◌≡◌, sym, ap, ◌∙◌}
use mathlib.Core.Bool.{false≢true}
use Rattle.session_cells.specs.Passing.{Update}
use Rattle.session_cells.proofs.Fitting.{fits_all, fits_not, cell_passed_as, cell_none}
use Rattle.session_cells.proofs.cells.pass_one.Goals as goal

pub returns-in_default : goal.returns-in_default
returns-in_default c =
    let unfit = fits_not c.args.line c.args.part.now c.args.row (c.args.row + 1) (λ f. c.in_default.ensures.cases f.0) in
    let e = sym (cell_none c.args.line c.args.row c.args.m c.args.highest c.args.part.now unfit) in
    record { value = c.passed.ensures ∙ ap (λ (u : Update). u.answer) e; part_after = ap (λ (u : Update). u.part) e }

pub returns-then-not-fits : goal.returns-then-not-fits
returns-then-not-fits c =
    let add = c.saturating_add.ensures in
    let unfit = fits_not c.args.line c.args.part.now c.args.row (c.args.row + 1)
    (λ f. false≢true (sym c.if-not-fits.true ∙ c.fits.ensures.1 (omega (arith, f.2), omega (arith, f.2), omega (arith, f.2, f.3)))) in
    let e = sym (cell_none c.args.line c.args.row c.args.m c.args.highest c.args.part.now unfit) in
    record {
      value = c.passed-then-not-fits.ensures ∙ ap (λ (u : Update). u.answer) e;
      part_after = c.in-Some.ensures.cases.same ∙ ap (λ (u : Update). u.part) e;
    }

pub pass_row-requires : goal.pass_row-requires
pass_row-requires c =
    let rows = c.fits.ensures.0 c.if-not-fits.false in
    (omega (arith, c.saturating_add.ensures, rows.1), c.if-line.true)

pub returns-then-line : goal.returns-then-line
returns-then-line c =
    let rows = c.fits.ensures.0 c.if-not-fits.false in
    let whole = c.in-Some.ensures.cases in
    let add : c.saturating_add.result ≡ c.args.row + 1 = omega (arith, c.saturating_add.ensures, rows.1) in
    let e = cell_passed_as c.args.line c.args.row c.args.m c.args.highest c.args.part.now
    (fits_all c.args.line c.args.part.now c.args.row (c.args.row + 1) whole.long (omega arith) (omega (arith, rows.1)) (omega (arith, rows.2))) whole.same in
    record {
      value = c.pass_row.ensures.value ∙ ap (λ (u : Update). u.answer) e;
      part_after = c.pass_row.ensures.part_after ∙ ap (λ (u : Update). u.part) e;
    }

pub pass_row-requires-else-line : goal.pass_row-requires-else-line
pass_row-requires-else-line c =
    let rows = c.fits.ensures.0 c.if-not-fits.false in
    (omega (arith, c.saturating_add.ensures, rows.1), c.if-line.false)

pub returns-else-line : goal.returns-else-line
returns-else-line c =
    let rows = c.fits.ensures.0 c.if-not-fits.false in
    let whole = c.in-Some.ensures.cases in
    let add : c.saturating_add.result ≡ c.args.row + 1 = omega (arith, c.saturating_add.ensures, rows.1) in
    let e = cell_passed_as c.args.line c.args.row c.args.m c.args.highest c.args.part.now
    (fits_all c.args.line c.args.part.now c.args.row (c.args.row + 1) whole.long (omega arith) (omega (arith, rows.1)) (omega (arith, rows.2))) whole.same in
    record {
      value = c.pass_row-else-line.ensures.value ∙ ap (λ (u : Update). u.answer) e;
      part_after = c.pass_row-else-line.ensures.part_after ∙ ap (λ (u : Update). u.part) e;
    }
