-- `computed` meets its contract: below 2 nothing is flipped, and 2 and 3 are.
use Prim.Native.Nat.{ℕ, ◌/◌, ◌%◌, ◌≤◌, ◌<◌}
use native.Mathlib.Omega.{arith}
use mathlib.Core.Path.{◌≡◌}
use mathlib.Core.Logic.{⊎_elim}
use lib.Bits.{bit_xor}
use borrow.Author.Tests.{ne_eqb}
use Rattle.base.proofs.Lists.{eq_or_ne}
use Rattle.letters.specs.Computed.{flipped_high, computed}
use Rattle.letters.proofs.computed.Goals as goal

low : (s : ℕ) → s < 2 → s ≡ flipped_high s
low s h = simp (ne_eqb s 2 (λ e. omega arith), ne_eqb s 3 (λ e. omega arith))

high : (s : ℕ) → 2 ≤ s → s < 4 → bit_xor s 1 ≡ flipped_high s
high s h l = ⊎_elim (λ e. rw e) (λ n. let three : s ≡ 3 = omega arith in rw three) (eq_or_ne s 2)

pub returns-then-s-lt2 : goal.returns-then-s-lt2
unfolding computed
returns-then-s-lt2 c = low (c.args.b / 2 % 4) (omega (arith, c.if-s-lt2.true))

pub returns : goal.returns
unfolding computed
returns c = high (c.args.b / 2 % 4) (omega (arith, c.if-s-lt2.false)) (omega arith)
