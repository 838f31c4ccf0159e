-- Marks are 0 or 1.
use Rattle.std.proofs.Common.{ℕ}
use lib.Dec.{leb}
use Rattle.base.specs.Counts.{occ}
use Rattle.strike.proofs.Marked.{marks_le_one}
use Rattle.strike.proofs.blocks.Rule.copy_block.Goals as goal

pub copy_marked-requires-clause-by_index : goal.copy_marked-requires-clause-by_index
copy_marked-requires-clause-by_index c =
    let a = c.args in λ k. rw c.mark_block-kept.ensures.marks_after (marks_le_one (λ (x : ℕ). leb (occ x a.self.deciding.now) a.self.limit) a.codes.now k)

pub copy_marked-requires-2-clause-by_index : goal.copy_marked-requires-2-clause-by_index
copy_marked-requires-2-clause-by_index c =
    let a = c.args in λ k. rw c.mark_block-kept.ensures.marks_after (marks_le_one (λ (x : ℕ). leb (occ x a.self.deciding.now) a.self.limit) a.codes.now k)
