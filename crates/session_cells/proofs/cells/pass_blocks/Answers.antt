use native.Mathlib.Omega.{arith}
use mathlib.Core.Path.{sym, ap, ◌∙◌}
use Rattle.session_cells.specs.declared.cells.Passed.{Passed}
use Rattle.session_cells.specs.Passing.{Update}
use Rattle.session_cells.proofs.Passing.{rest_moved, rest_within, blocks_stop, blocks_on}
use Rattle.session_cells.proofs.cells.pass_blocks.Goals as goal

pub returns-then-passed : goal.returns-then-passed
returns-then-passed g c =
    let next = c.loop-next.next in
    let rest = c.pass_rest-passed.ensures in
    let found = sym (ap (λ (p : Passed). p.found) rest.value) ∙ c.if-passed.true in
    let e = sym (blocks_stop c.args.line c.args.to next.row next.m next.highest _ c.loop-next-test.true c.requires.2 found) ∙ c.loop-next.invariant.same in
    record { value = rest.value ∙ ap (λ (u : Update). u.answer) e; part_after = rest.part_after ∙ ap (λ (u : Update). u.part) e }

pub loop-next-smaller : goal.loop-next-smaller
loop-next-smaller g c =
    let next = c.loop-next.next in
    let answer = ap (λ (p : Passed). p.row) c.pass_rest-passed.ensures.value in
    let moved = rest_moved c.args.line c.args.to next.row next.m next.highest c.loop-next.part c.loop-next-test.true c.requires.2 in
    let within = rest_within c.args.line c.args.to next.row next.m next.highest c.loop-next.part c.loop-next-test.true c.requires.2 in
    omega (arith, answer, moved, within)

pub loop-next-preserved : goal.loop-next-preserved
loop-next-preserved g c =
    let next = c.loop-next.next in
    let rest = c.pass_rest-passed.ensures in
    let answer = ap (λ (p : Passed). p.row) rest.value in
    let within = rest_within c.args.line c.args.to next.row next.m next.highest c.loop-next.part c.loop-next-test.true c.requires.2 in
    let found = sym (ap (λ (p : Passed). p.found) rest.value) ∙ c.if-passed.false in
    record {
      within = omega (arith, answer, within);
      same = rw (rest.value, rest.part_after)
          (sym (blocks_on c.args.line c.args.to next.row next.m next.highest _ c.loop-next-test.true c.requires.2 found) ∙ c.loop-next.invariant.same);
    }
