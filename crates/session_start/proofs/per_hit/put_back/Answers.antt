-- `per_hit::put_back` meets its contract: the parts of the arrays are lent as zeros.
use Rattle.std.proofs.Common.{List, ℕ, length, get_or, take, arith, ap, ◌∙◌}
use Rattle.std.proofs.Math.Seq.{length-take-le}
use Rattle.base.specs.Limits.{pattern_limit}
use Rattle.session_start.proofs.Linking.{zero_words}
use Rattle.session_start.proofs.per_hit.put_back.Goals as goal

pub link-requires-clause-turns_fresh : goal.link-requires-clause-turns_fresh
link-requires-clause-turns_fresh c =
    let n = length c.args.sorted.words.now in
    (length-take-le _ _ (omega arith), λ k. ap (λ (l : List ℕ). get_or (take n l) k 0) c.copies-turns.ensures.value ∙ zero_words n pattern_limit k)

pub link-requires-clause-ring_fresh : goal.link-requires-clause-ring_fresh
link-requires-clause-ring_fresh c =
    let n = length c.args.sorted.words.now in
    (length-take-le _ _ (omega arith), λ k. ap (λ (l : List ℕ). get_or (take n l) k 0) c.copies-ring.ensures.value ∙ zero_words n pattern_limit k)
