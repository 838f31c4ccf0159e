-- The per mille of a mapping, and what the call answers.
use Rattle.std.specs.Prelude.{ℕ, ◌+◌, ◌-◌, ◌*◌, Bool, cond, ◌&&◌, ◌||◌, ltb, eqb, ℤ, pos, neg_ℤ, Result, Ok, Err}
use Rattle.base.specs.Limits.{text_limit, pattern_limit}
use Rattle.base.specs.declared.refusal.Refusal.{Refusal}
use Rattle.per_mille.specs.Rounding.{nearest}

-- 1,000·m / (len + |p| − m), rounded to the nearest whole number, an exact half to the even one
unfoldable pub per_mille : ℕ → ℕ → ℕ → ℕ
per_mille m len size = nearest (1000 * m) (len + size - m)

-- m over len or over the pattern's length, len over 65,535, pattern over 4,096, or both lengths 0
unfoldable pub is_refused : ℕ → ℕ → ℕ → Bool
is_refused m len size =
    ltb len m
    || ltb size m
    || ltb text_limit len
    || ltb pattern_limit size
    || (eqb len 0 && eqb size 0)

-- what per mille answers: its number, or the refusal of these counts
unfoldable pub per_mille_answer : ℕ → ℕ → ℕ → Result ℕ Refusal
per_mille_answer m len size = cond (is_refused m len size) (Err Refusal.BadCounts) (Ok (per_mille m len size))

-- the same as one number for the host program: the refusal number 16 negated
unfoldable pub per_mille_number : ℕ → ℕ → ℕ → ℤ
per_mille_number m len size = cond (is_refused m len size) (neg_ℤ (pos 16)) (pos (per_mille m len size))
