-- How large m and the linear score become where start accepts the task, and linear scores by their biased words there.
use Prim.Native.Nat.{ℕ, ◌+◌, ◌-◌, ◌*◌, ◌≤◌, ◌<◌}
use native.Mathlib.Nat.{mul-le-mul}
use native.Mathlib.Omega.{arith}
use mathlib.Core.Path.{◌≡◌, sym, ap₂, ◌∙◌}
use mathlib.Core.Bool.{true}
use lib.Dec.{leb}
use lib.ListN.{length}
use lib.IntN.{ℤ, pos, negsuc}
use lib.Signed.{le_z, mag}
use borrow.Author.Tests.{le-leb}
use Rattle.base.specs.Limits.{text_limit, weight_limit, pattern_limit, divisor_limit}
use Rattle.mappings.specs.declared.Scoring.{Scoring}
use Rattle.mappings.specs.declared.Scoring.TheVariants.{Linear, Jaccard}
use Rattle.mappings.specs.Score.{Task, interval, distance, linear, length_of, shared_of}
use Rattle.mappings.specs.Bias.{bias, biased, biased_z}
use Rattle.mappings.proofs.Integers.{differences_order, linear_biased, biased_order, unbiased_order, unbiased_biased_z}
use Rattle.mappings.proofs.Shared.{shared_le_length, shared_le_pattern, length_interval}

-- ---- any task

-- m is at most len
pub shared_le_len : (task : Task) (a b : ℕ) → b < length task.text → shared_of task a b ≤ length_of a b
unfolding shared_of length_of
shared_le_len task a b h =
    let m : shared_of task a b ≤ length (interval task.text a b) = shared_le_length task.pattern (interval task.text a b) in
    omega (arith, length_interval task.text a b h)

-- and at most |p|
pub shared_le_size : (task : Task) (a b : ℕ) → shared_of task a b ≤ length task.pattern
unfolding shared_of
shared_le_size task a b = shared_le_pattern task.pattern (interval task.text a b)

-- so d is not cut off at 0
pub twice_shared : (task : Task) (a b : ℕ) → b < length task.text → 2 * shared_of task a b ≤ length_of a b + length task.pattern
twice_shared task a b h = omega (arith, shared_le_len task a b h, shared_le_size task a b)

-- ---- a task within start's limits

-- the weights are small, or the threshold f/g is at most 1 and its divisor is small
abbrev pub SmallNumbers : Scoring → Type 0
SmallNumbers (Linear u v threshold) = (u ≤ weight_limit) × (v ≤ weight_limit)
SmallNumbers (Jaccard f g) = (f ≤ g) × (1 ≤ g) × (g ≤ divisor_limit)

pub record Limited (task : Task) : Type 0 where
  pub small_numbers : SmallNumbers task.scoring
  pub short_text : length task.text ≤ text_limit
  pub short_pattern : length task.pattern ≤ pattern_limit

pub lengths : (task : Task) → Limited task → (a b : ℕ) → b < length task.text → length_of a b + length task.pattern ≤ text_limit + pattern_limit
unfolding length_of
lengths task limited a b h = omega (arith, limited.short_text, limited.short_pattern)

-- ---- linear scores of such tasks

-- v·d is at most 69,631,000, and u·m at most 4,096,000
abbrev most_lost : ℕ
most_lost = weight_limit * (text_limit + pattern_limit)

abbrev most_gained : ℕ
most_gained = weight_limit * pattern_limit

pub score_low : (u v size m len : ℕ) → v ≤ weight_limit → len + size ≤ text_limit + pattern_limit
    → le_z (negsuc (most_lost - 1)) (linear u v size m len) ≡ true
unfolding linear distance
score_low u v size m len small short =
    let d : ℕ = len + size - 2 * m in
    let l : v * d ≤ most_lost = mul-le-mul {m₂ = text_limit + pattern_limit} small (omega arith) in
    differences_order 0 most_lost (u * m) (v * d) ∙ le-leb (0 + v * d) (u * m + most_lost) (omega arith)

pub score_high : (u v size m len : ℕ) → u ≤ weight_limit → m ≤ size → size ≤ pattern_limit → le_z (linear u v size m len) (pos most_gained) ≡ true
unfolding linear distance
score_high u v size m len small within short =
    let d : ℕ = len + size - 2 * m in
    let l : u * m ≤ most_gained = mul-le-mul {m₂ = pattern_limit} small (omega arith) in
    differences_order (u * m) (v * d) most_gained 0 ∙ le-leb (u * m + 0) (most_gained + v * d) (omega arith)

-- so a word with the bias is not cut off at 0
weighed : (v size len : ℕ) → v ≤ weight_limit → len + size ≤ text_limit + pattern_limit → v * (len + size) ≤ bias
weighed v size len small short =
    let l : v * (len + size) ≤ most_lost = mul-le-mul {m₂ = text_limit + pattern_limit} small short in
    omega arith

-- scores order as their words do
pub linear_order : (u v size m len m' len' : ℕ) → v ≤ weight_limit → len + size ≤ text_limit + pattern_limit → 2 * m ≤ len + size
    → len' + size ≤ text_limit + pattern_limit → 2 * m' ≤ len' + size
    → le_z (linear u v size m len) (linear u v size m' len') ≡ leb (biased u v size m len) (biased u v size m' len')
linear_order u v size m len m' len' small short h short' h' =
    biased_order u v size m len m' len' h (weighed v size len small short) h' (weighed v size len' small short')

-- and against a threshold of 32 bits
pub linear_threshold : (u v size m len : ℕ) (threshold : ℤ) → v ≤ weight_limit → mag threshold < bias → len + size ≤ text_limit + pattern_limit
    → 2 * m ≤ len + size → le_z threshold (linear u v size m len) ≡ leb (biased_z threshold) (biased u v size m len)
linear_threshold u v size m len threshold small fits short h =
    ap₂ le_z (sym (unbiased_biased_z threshold fits)) (linear_biased u v size m len h (weighed v size len small short))
    ∙ unbiased_order (biased_z threshold) (biased u v size m len)
