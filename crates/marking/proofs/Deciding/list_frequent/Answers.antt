-- Words in order are listed as they are, and the filter leaves only words out that are rare.
use Rattle.std.proofs.Common.{true, arith}
use Rattle.std.specs.List.Sorted.{IsNonDecreasing}
use Rattle.std.proofs.Math.Seq.{length-take-le}
use Rattle.std.proofs.lemmas.List.Sorted.{non_decreasing_from_is_sorted}
use Rattle.marking.proofs.Runs.{suspects_frequent}
use Rattle.marking.proofs.Deciding.list_frequent.Goals as goal

pub list_runs-requires-clause-in_order : goal.list_runs-requires-clause-in_order
list_runs-requires-clause-in_order c i j h l =
    let rises : IsNonDecreasing c.args.self.words.now = non_decreasing_from_is_sorted c.args.self.words.now true c.if-is_sorted.ensures.cases in
    rises i j 0 h l

pub returns-clause-listed : goal.returns-clause-listed
returns-clause-listed c =
    let long = length-take-le c.suspects-n.result c.copies-sorted.result (omega arith) in
    suspects_frequent _ _ _ _ c.suspects-n.ensures.out_after (rw long at c.list_by_sorting.ensures.listed)
