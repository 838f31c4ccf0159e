-- `winnow` meets its contract: beyond a limit nothing is written, and else the scan writes.
use mathlib.Core.Path.{sym, ◌∙◌}
use lib.ListN.{length}
use Rattle.winnowing.specs.Winnowed.{winnowed}
use Rattle.winnowing.proofs.Within.{not_beyond}
use Rattle.winnowing.proofs.winnow.Goals as goal

pub returns-then-is_beyond : goal.returns-then-is_beyond
unfolding winnowed
returns-then-is_beyond c = rw (sym c.is_beyond.ensures ∙ c.if-is_beyond.true)

pub scan-requires : goal.scan-requires
scan-requires c =
    let args = c.args in
    let limits = not_beyond args.k args.w (length args.letters.now) args.codes.now args.positions.now args.room
    (sym c.is_beyond.ensures ∙ c.if-is_beyond.false) in
    record { le_k = limits.0; has_room = limits.1 }

pub returns : goal.returns
unfolding winnowed
returns c = rw (sym c.is_beyond.ensures ∙ c.if-is_beyond.false) c.scan.ensures
