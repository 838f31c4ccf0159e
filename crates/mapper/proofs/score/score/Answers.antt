-- `score::score`: both products fit 32 bits, and so does their difference.
use Rattle.std.proofs.Common.{◌+◌, ◌-◌, ◌*◌, ◌≤◌, arith}
use Rattle.std.proofs.Math.Nat.{mul-le-mul}
use Rattle.base.specs.Limits.{text_limit, pattern_limit, weight_limit}
use Rattle.mappings.specs.Score.{distance, linear}
use Rattle.mapper.proofs.Signed.{difference_is}
use Rattle.mapper.proofs.score.score.Goals as goal

pub returns : goal.returns
unfolding linear distance
returns c =
    let gained : c.args.u * c.args.m ≤ weight_limit * pattern_limit = mul-le-mul {m₂ = pattern_limit} c.requires.0 (omega arith) in
    let lost : c.args.v * (c.args.len + c.args.size - 2 * c.args.m) ≤ weight_limit * (text_limit + pattern_limit) =
    mul-le-mul {m₂ = text_limit + pattern_limit} c.requires.1 (omega arith) in
    difference_is (c.args.u * c.args.m) (c.args.v * (c.args.len + c.args.size - 2 * c.args.m)) (omega (arith, gained)) (omega (arith, lost))
