-- `decide::enough`: the score is the definition's, all products fit 32 bits, and the threshold alone is left to decide.
use Rattle.std.proofs.Common.{sym, ap, ◌∙◌, w32, arith, rules}
use Rattle.std.proofs.lemmas.Int.{to_z-of_z}
use Rattle.std.proofs.Math.Nat.{mul_comm}
use mir.Val.{SFits}
use borrow.Author.Tests.{le-leb, lt-leb}
use Rattle.mappings.specs.declared.Score.TheVariants.{Number}
use Rattle.mappings.specs.Score.{length_of}
use Rattle.mapper.proofs.Deciding.{scorable_says, linear_small, fraction_small, product, linear_score, fraction_score}
use Rattle.mapper.proofs.decide.enough.Goals as goal

pub overflow_sub-len : goal.overflow_sub-len
overflow_sub-len c = (scorable_says _ _ _ _ c.requires).ordered

pub overflow_add-len : goal.overflow_add-len
overflow_add-len c = omega (arith, (scorable_says c.args.terms c.args.at.a c.args.at.b c.args.at.m c.requires).short)

pub score-score-requires : goal.score-score-requires
unfolding length_of
score-score-requires c =
    let s = scorable_says c.args.terms c.args.at.a c.args.at.b c.args.at.m c.requires in
    let small = linear_small _ _ _ _ s.small c.in-Linear.is in
    (small.0, small.1, s.short_pattern, omega (arith, s.short), s.at_most_size, omega (arith, s.at_most_len, s.ordered))

pub returns-then-threshold-score : goal.returns-then-threshold-score
returns-then-threshold-score c =
    let ordered = (scorable_says c.args.terms c.args.at.a c.args.at.b c.args.at.m c.requires).ordered in
    let e = linear_score c.args.terms c.args.at.a c.args.at.b c.args.at.m ordered _ _ _ c.in-Linear.is in
    let threshold_fits : SFits w32 c.in-Linear.threshold = search rules in
    let score_fits : SFits w32 c.score-score.result = search rules in
    let met = simp to_z-of_z at c.if-threshold-score.true in
    (simp to_z-of_z (ap Number c.score-score.ensures ∙ sym e), rw (e, c.in-Linear.is, ← c.score-score.ensures) met)

pub returns-else-threshold-score : goal.returns-else-threshold-score
returns-else-threshold-score c =
    let ordered = (scorable_says c.args.terms c.args.at.a c.args.at.b c.args.at.m c.requires).ordered in
    let e = linear_score c.args.terms c.args.at.a c.args.at.b c.args.at.m ordered _ _ _ c.in-Linear.is in
    let threshold_fits : SFits w32 c.in-Linear.threshold = search rules in
    let score_fits : SFits w32 c.score-score.result = search rules in
    let missed = simp to_z-of_z at c.if-threshold-score.false in
    rw (e, c.in-Linear.is, ← c.score-score.ensures) missed

pub overflow_add-divisor : goal.overflow_add-divisor
overflow_add-divisor c =
    let s = scorable_says c.args.terms c.args.at.a c.args.at.b c.args.at.m c.requires in
    omega (arith, s.short, s.short_pattern)

pub overflow_sub-divisor : goal.overflow_sub-divisor
overflow_sub-divisor c = omega (arith, (scorable_says c.args.terms c.args.at.a c.args.at.b c.args.at.m c.requires).at_most_size)

pub overflow_mul-needed : goal.overflow_mul-needed
overflow_mul-needed c =
    let s = scorable_says c.args.terms c.args.at.a c.args.at.b c.args.at.m c.requires in
    let small = fraction_small _ _ _ s.small c.in-Jaccard.is in
    record { fits = product _ _ (omega (arith, small.0, small.1)) (omega (arith, s.short, s.short_pattern)) }

pub overflow_mul-reached : goal.overflow_mul-reached
overflow_mul-reached c =
    let s = scorable_says c.args.terms c.args.at.a c.args.at.b c.args.at.m c.requires in
    let small = fraction_small _ _ _ s.small c.in-Jaccard.is in
    rw mul_comm (record { fits = product _ _ (omega (arith, small.0, small.1)) (omega (arith, s.at_most_size, s.short_pattern)) })

pub returns-then-needed-reached : goal.returns-then-needed-reached
returns-then-needed-reached c =
    let ordered = (scorable_says c.args.terms c.args.at.a c.args.at.b c.args.at.m c.requires).ordered in
    let e = fraction_score c.args.terms c.args.at.a c.args.at.b c.args.at.m ordered _ _ c.in-Jaccard.is in
    (sym e, rw (e, c.in-Jaccard.is) (le-leb _ _ c.if-needed-reached.true))

pub returns-else-needed-reached : goal.returns-else-needed-reached
returns-else-needed-reached c =
    let ordered = (scorable_says c.args.terms c.args.at.a c.args.at.b c.args.at.m c.requires).ordered in
    let e = fraction_score c.args.terms c.args.at.a c.args.at.b c.args.at.m ordered _ _ c.in-Jaccard.is in
    rw (e, c.in-Jaccard.is) (lt-leb _ _ c.if-needed-reached.false)
