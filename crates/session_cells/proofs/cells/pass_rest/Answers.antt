use Prim.Native.Nat.{ℕ, ◌-◌, min}
use native.Mathlib.Omega.{arith}
use mathlib.Core.Path.{◌≡◌, sym, ap, ◌∙◌}
use Rattle.session_cells.specs.Passing.{Update, rest_end, pass_rows}
use Rattle.session_cells.proofs.Passing.{rest_moves, rest_skip, rest_rows}
use Rattle.session_cells.proofs.cells.pass_rest.Goals as goal

pub returns-then-is_skipped : goal.returns-then-is_skipped
returns-then-is_skipped g c =
    let next = c.args.next in
    let e = sym (rest_skip c.args.line c.args.to next.row next.m next.highest c.args.part.now (sym c.is_skipped.ensures ∙ c.if-is_skipped.true)) in
    record { value = c.skip.ensures ∙ ap (λ (u : Update). u.answer) e; part_after = ap (λ (u : Update). u.part) e }

pub pass_rows-requires : goal.pass_rows-requires
pass_rows-requires g c =
    let moves = rest_moves c.args.line c.args.next.row (omega (arith, c.requires)) in
    (omega (arith, c.min.ensures, c.rest_end.ensures, moves, c.requires), omega (arith, c.min.ensures, c.requires), c.requires.3)

pub returns : goal.returns
returns g c =
    let line = c.args.line in
    let to = c.args.to in
    let next = c.args.next in
    let ends : c.min.result ≡ min (rest_end line next.row) to = c.min.ensures ∙ ap (λ (n : ℕ). min n to) c.rest_end.ensures in
    let e = ap (λ (n : ℕ). pass_rows line (n - next.row) next.row next.m next.highest c.args.part.now) ends
    ∙ sym (rest_rows line to next.row next.m next.highest c.args.part.now (sym c.is_skipped.ensures ∙ c.if-is_skipped.false)) in
    record {
      value = c.pass_rows.ensures.value ∙ ap (λ (u : Update). u.answer) e;
      part_after = c.pass_rows.ensures.part_after ∙ ap (λ (u : Update). u.part) e;
    }
