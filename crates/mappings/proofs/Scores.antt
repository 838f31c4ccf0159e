-- Both scores are what the argument about wider intervals asks for: of the linear score by the order of ℤ, of the weighted Jaccard by cross
-- products.
use Prim.Native.Nat.{ℕ, suc, ◌+◌, ◌*◌, ◌≤◌}
use native.Mathlib.Nat.{le_of_lt, mul-le-mul_left}
use native.Mathlib.Omega.{arith}
use mathlib.Core.Path.{◌≡◌, refl, sym, ◌∙◌}
use mathlib.Core.Bool.{true, false, false≢true}
use lib.IntN.{ℤ}
use borrow.Author.Tests.{leb-true, leb-false, le-leb}
use Rattle.base.proofs.Fractions.{cross_transitive}
use Rattle.mappings.specs.declared.Scoring.{Scoring}
use Rattle.mappings.specs.declared.Scoring.TheVariants.{Linear, Jaccard}
use Rattle.mappings.specs.declared.Score.{Score}
use Rattle.mappings.specs.declared.Score.TheVariants.{Number, Fraction}
use Rattle.mappings.specs.Score.{distance, linear, divisor, scored, at_most}
use Rattle.mappings.specs.Scored.{Scored}
use Rattle.mappings.proofs.Integers.{le_z_total, le_z_trans, differences_order}

scores_total : (y z : Score) → at_most y z ≡ false → at_most z y ≡ true
scores_total (Number y) (Number z) e = le_z_total y z e
scores_total (Number y) (Fraction m d) e = absurd (false≢true (sym e))
scores_total (Fraction m d) (Number z) e = refl
scores_total (Fraction m d) (Fraction m' d') e = le-leb (m' * d) (m * d') (le_of_lt (leb-false (m * d') (m' * d) e))

through_number : (x z : Score) (y : ℤ) → at_most x (Number y) ≡ true → at_most (Number y) z ≡ true → at_most x z ≡ true
through_number (Number x) (Number z) y h k = le_z_trans x y z h k
through_number (Number x) (Fraction m d) y h k = refl
through_number (Fraction m d) z y h k = absurd (false≢true h)

-- 0/0 is at most each fraction and at least each: it can't stand between two others
through_fraction : (x z : Score) (m d : ℕ) → 1 ≤ m + d → at_most x (Fraction m d) ≡ true → at_most (Fraction m d) z ≡ true → at_most x z ≡ true
through_fraction x (Number z) m d some h k = absurd (false≢true k)
through_fraction (Number x) (Fraction m'' d'') m d some h k = refl
through_fraction (Fraction m' d') (Fraction m'' d'') m d some h k =
    le-leb (m' * d'') (m'' * d') (cross_transitive m' d' m d m'' d'' some (leb-true (m' * d) (m * d') h) (leb-true (m * d'') (m'' * d) k))

distance_longer : (len size m : ℕ) → distance len size m ≤ distance (suc len) size m
unfolding distance
distance_longer len size m = omega arith

linear_scored : (u v size : ℕ) (threshold : ℤ) → Scored Score at_most (scored (Linear u v threshold) size)
unfolding linear
linear_scored u v size threshold = record {
  total = scores_total;
  transitive = λ x z m len some. through_number x z (linear u v size m len);
  longer = λ m len. (let l : v * distance len size m ≤ v * distance (suc len) size m = mul-le-mul_left v (distance_longer len size m) in
      differences_order (u * m) (v * distance (suc len) size m) (u * m) (v * distance len size m)
      ∙ le-leb (u * m + v * distance len size m) (u * m + v * distance (suc len) size m) (omega arith));
}

-- a fraction of no entry and an empty pattern would be 0/0
divisor_some : (len size m : ℕ) → 1 ≤ len → 1 ≤ m + divisor len size m
unfolding divisor
divisor_some len size m some = omega arith

divisor_longer : (len size m : ℕ) → divisor len size m ≤ divisor (suc len) size m
unfolding divisor
divisor_longer len size m = omega arith

jaccard_scored : (f g size : ℕ) → Scored Score at_most (scored (Jaccard f g) size)
jaccard_scored f g size = record {
  total = scores_total;
  transitive = λ x z m len some. through_fraction x z m (divisor len size m) (divisor_some len size m some);
  longer = λ m len. le-leb (m * divisor len size m) (m * divisor (suc len) size m) (mul-le-mul_left m (divisor_longer len size m));
}

pub scores : (scoring : Scoring) (size : ℕ) → Scored Score at_most (scored scoring size)
scores (Linear u v threshold) size = linear_scored u v size threshold
scores (Jaccard f g) size = jaccard_scored f g size
