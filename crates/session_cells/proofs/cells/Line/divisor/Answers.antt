-- The remainder of a sum is that of the sum of remainders.
use Prim.Native.Nat.{ℕ, ◌+◌, ◌-◌, ◌*◌, ◌%◌, ◌<◌}
use native.Mathlib.Nat.{mod-add-mod}
use native.Mathlib.Omega.{arith}
use mathlib.Core.Path.{◌≡◌, ap, ◌∙◌}
use Rattle.base.specs.Limits.{word_limit}
use Rattle.session_cells.specs.Passing.{line_divisor}
use Rattle.session_cells.proofs.cells.Line.divisor.Goals as goal

cut : (base x m : ℕ) → base < word_limit → x < word_limit → m < word_limit
    → ((word_limit - 1 - base + (word_limit - x)) % word_limit + (word_limit - m)) % word_limit ≡ (3 * word_limit - 1 - base - x - m) % word_limit
cut base x m a b c =
    let whole : word_limit - 1 - base + (word_limit - x) + (word_limit - m) ≡ 3 * word_limit - 1 - base - x - m = omega arith in
    mod-add-mod (word_limit - 1 - base + (word_limit - x)) word_limit (word_limit - m) ∙ ap (λ (n : ℕ). n % word_limit) whole

pub returns : goal.returns
unfolding line_divisor
returns c = cut c.args.self.base c.args.x c.args.m (omega arith) c.ranges.x.fits c.ranges.m.fits
