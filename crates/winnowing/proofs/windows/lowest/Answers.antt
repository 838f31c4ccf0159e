-- `windows::lowest` meets its contract: the lowest of the slots passed, and its rank.
use Prim.Native.Nat.{ℕ}
use native.Mathlib.Numerals.{add-one}
use native.Mathlib.Omega.{arith}
use mathlib.Core.Path.{◌≡◌, refl}
use mathlib.Core.List.{List}
use lib.ListN.{get_or}
use Rattle.minimizers.proofs.Picks.{lowest_one, lowest_new, lowest_kept}
use Rattle.winnowing.proofs.windows.lowest.Goals as goal
use Rattle.winnowing.proofs.windows.lowest.Goals.{then-found-low, else-found-low}

abbrev in_slot : List ℕ → ℕ → ℕ
in_slot ranks i = get_or ranks i 0

pub loop-i-init : goal.loop-i-init
loop-i-init c = record { lowest = rw add-one (lowest_one (in_slot c.args.ranks.now) c.args.from); rank_there = refl }

pub loop-i-preserved : goal.loop-i-preserved
loop-i-preserved c =
    let ranks = c.args.ranks.now in
    let from = c.args.from in
    let at = c.loop-i in
    let is = at.invariant in
    elim c.if-found-low.branch [
      | then-found-low w ↦ record {
        lowest = rw (w.low_at-is, add-one) (lowest_new (in_slot ranks) from at.i at.low_at is.lowest (omega (arith, is.rank_there, w.if-found-low.true)));
        rank_there = rw (w.low-is, w.low_at-is);
      }
      | else-found-low w ↦ record {
        lowest = rw (w.low_at-is, add-one) (lowest_kept (in_slot ranks) from at.i at.low_at is.lowest (omega (arith, is.rank_there, w.if-found-low.false)));
        rank_there = rw (w.low-is, w.low_at-is) is.rank_there;
      }
    ]

pub returns : goal.returns
returns c =
    let end : c.loop-i.i ≡ c.args.to = omega (arith, c.requires) in
    rw end at c.loop-i.invariant.lowest
