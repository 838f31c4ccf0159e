-- Linear scores as unsigned words: with a bias of 2^31, so that they order as the scores do.
use Rattle.std.specs.Prelude.{ℕ, suc, ◌+◌, ◌-◌, ◌*◌, ℤ, pos, negsuc}
use Rattle.base.specs.Limits.{signed_limit}

-- 2^31: it takes the least signed number to 0
abbrev pub bias : ℕ
bias = signed_limit

-- (u + 2v)·m + 2^31 − v·(len + |p|)
unfoldable pub biased : ℕ → ℕ → ℕ → ℕ → ℕ → ℕ
biased u v size m len = (u + 2 * v) * m + bias - v * (len + size)

-- the word of a signed number, as of a threshold
abbrev pub biased_z : ℤ → ℕ
biased_z (pos n) = bias + n
biased_z (negsuc n) = bias - suc n
