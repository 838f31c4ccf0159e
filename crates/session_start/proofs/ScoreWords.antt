-- The word of a threshold f/g, as the code computes it; and the numbers of a scoring, as the code judges them.
use Prim.Native.Nat.{ℕ, zero, suc, ◌+◌, ◌-◌, ◌*◌, ◌≤◌}
use native.Mathlib.Omega.{arith}
use mathlib.Core.Path.{◌≡◌, refl}
use mathlib.Core.Bool.{false}
use lib.Dec.{ltb}
use borrow.Author.Tests.{ltb-false}
use Rattle.base.specs.Limits.{outside, divisor_limit}
use Rattle.base.proofs.Lists.{or_neither}
use Rattle.mappings.specs.declared.Scoring.TheVariants.{Jaccard}
use Rattle.session_records.specs.Words.{divisor_span, fraction_word}
use Rattle.session_start.specs.ScoreWords.{threshold_word}
use Rattle.session_start.specs.Start.{bad_fraction}

pub some_fraction : (f g : ℕ) → 1 ≤ f → (f - 1) * divisor_span + (divisor_span - 1 - g) ≡ threshold_word (Jaccard f g)
unfolding fraction_word
some_fraction zero g h = absurd (omega arith)
some_fraction (suc f) g h = refl

-- ---- the numbers of a fraction that is not refused

pub small_fraction : (f g : ℕ) → bad_fraction f g ≡ false → (f ≤ divisor_limit) × (g ≤ divisor_limit)
unfolding bad_fraction
small_fraction f g e =
    let divided = or_neither (outside 1 divisor_limit g) (ltb g f) e in
    let least : f ≤ g = ltb-false g f divided.1 in
    let most : g ≤ divisor_limit = ltb-false divisor_limit g (or_neither (ltb g 1) (ltb divisor_limit g) divided.0).1 in
    (omega arith, most)
