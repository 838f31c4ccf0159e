-- `scan::next_run` meets its contract: the sketch of the letters from here on is that of the letters from `from` on.
use mathlib.Core.Path.{sym, ◌∙◌}
use Rattle.minimizers.proofs.Runs.{sketch_from_end}
use Rattle.winnowing.proofs.Passing.{foreign_passed}
use Rattle.winnowing.proofs.scan.next_run.Goals as goal

pub loop-at-preserved : goal.loop-at-preserved
loop-at-preserved c =
    let at = c.loop-at in
    λ k w some wide. foreign_passed k w at.at c.args.letters.now some wide c.loop-at-test.true (sym c.value.ensures ∙ c.if-value-ne-FOREIGN.false)
    ∙ at.invariant k w some wide

pub returns : goal.returns
returns c =
    let at = c.loop-at in
    λ k w some wide. sym (at.invariant k w some wide) ∙ sketch_from_end k w at.at c.args.letters.now c.loop-at-test.false
