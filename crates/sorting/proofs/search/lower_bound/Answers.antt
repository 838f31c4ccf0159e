-- As many words as a pattern may have are all of them.
use Rattle.std.proofs.Common.{sym, arith}
use Rattle.std.proofs.Math.Seq.{take_all, length-take-le}
use Rattle.base.specs.Limits.{pattern_limit}
use Rattle.sorting.proofs.search.lower_bound.Goals as goal

pub slice_bounds-bisect-end : goal.slice_bounds-bisect-end
slice_bounds-bisect-end c = sym (length-take-le _ _ (omega arith))

pub returns-then-words-eq-PATTERN_LIMIT : goal.returns-then-words-eq-PATTERN_LIMIT
returns-then-words-eq-PATTERN_LIMIT c = rw (take_all pattern_limit c.args.words.now (omega arith)) at c.bisect.ensures
