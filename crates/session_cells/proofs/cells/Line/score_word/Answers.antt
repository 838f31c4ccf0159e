-- The remainder of a sum is that of the sum of remainders.
use Prim.Native.Nat.{ℕ, ◌+◌, ◌*◌, ◌%◌}
use native.Mathlib.Nat.{mod-add-mod}
use native.Mathlib.Omega.{arith}
use mathlib.Core.Path.{◌≡◌, ap, ◌∙◌}
use Rattle.base.specs.Limits.{word_limit}
use Rattle.session_cells.specs.Passing.{line_score}
use Rattle.session_cells.proofs.cells.Line.score_word.Goals as goal

cut : (a b c : ℕ) → ((a % word_limit + b % word_limit) % word_limit + c) % word_limit ≡ (a + b + c) % word_limit
cut a b c =
    let first : a % word_limit + b % word_limit + c ≡ a % word_limit + (b % word_limit + c) = omega arith in
    let second : a + (b % word_limit + c) ≡ b % word_limit + (a + c) = omega arith in
    let third : b + (a + c) ≡ a + b + c = omega arith in
    mod-add-mod (a % word_limit + b % word_limit) word_limit c
    ∙ ap (λ (n : ℕ). n % word_limit) first
    ∙ mod-add-mod a word_limit (b % word_limit + c)
    ∙ ap (λ (n : ℕ). n % word_limit) second
    ∙ mod-add-mod b word_limit (a + c)
    ∙ ap (λ (n : ℕ). n % word_limit) third

pub returns : goal.returns
unfolding line_score
returns c = cut (c.args.self.gain * c.args.m) (c.args.self.v * c.args.x) c.args.self.base
