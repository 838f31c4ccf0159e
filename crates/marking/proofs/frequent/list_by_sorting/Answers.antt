-- The words sorted are the first of the list in order.
use Rattle.std.proofs.Common.{length, take, sym, ◌∙◌}
use Rattle.std.proofs.Math.Seq.{length-take-le}
use Rattle.sorting.proofs.Room.{through_exact}
use Rattle.marking.proofs.Runs.{copy_sorted, copy_frequent}
use Rattle.marking.proofs.frequent.list_by_sorting.Goals as goal

pub list_runs-requires-clause-in_order : goal.list_runs-requires-clause-in_order
list_runs-requires-clause-in_order c =
    let words = take (length c.args.sorted.now) c.args.list.now in
    copy_sorted words _ (c.sort_through.ensures.sorted_after ∙ through_exact words _ (sym (length-take-le _ _ c.requires)))

pub returns-clause-listed : goal.returns-clause-listed
returns-clause-listed c =
    let words = take (length c.args.sorted.now) c.args.list.now in
    copy_frequent words _ _ _ (c.sort_through.ensures.sorted_after ∙ through_exact words _ (sym (length-take-le _ _ c.requires))) c.list_runs.ensures.listed
