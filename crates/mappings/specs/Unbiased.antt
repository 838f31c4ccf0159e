-- From a biased word back to its signed number.
use Rattle.std.specs.Prelude.{ℕ, ℤ, pos, ◌-ℤ◌}
use Rattle.mappings.specs.Bias.{bias}

-- the signed number that a biased word stands for
unfoldable pub unbiased : ℕ → ℤ
unbiased word = pos word -ℤ pos bias
