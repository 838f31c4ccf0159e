-- What the deciding test asks and says: a scoring and counts such as sessions have.
use Prim.Native.Nat.{ℕ, suc, ◌+◌, ◌-◌, ◌*◌, ◌≤◌, ◌<◌}
use native.Mathlib.Nat.{mul-le-mul}
use native.Mathlib.Omega.{arith}
use mathlib.Core.Path.{◌≡◌}
use mathlib.Core.Bool.{Bool, true, false, cond, ◌&&◌}
use lib.Dec.{leb, ltb, eqb}
use lib.IntN.{ℤ}
use borrow.Author.Tests.{le-leb, leb-true, lt-ltb, ltb-true}
use Rattle.base.proofs.Lists.{and_left, and_right}
use Rattle.base.specs.Limits.{text_limit, weight_limit, divisor_limit, pattern_limit, word_limit}
use Rattle.mappings.specs.declared.Scoring.{Scoring}
use Rattle.mappings.specs.declared.Scoring.TheVariants.{Linear, Jaccard}
use Rattle.mappings.specs.declared.Score.TheVariants.{Number, Fraction}
use Rattle.mappings.specs.Score.{length_of, linear, divisor}
use Rattle.mappings.specs.Unbiased.{unbiased}
use Rattle.session_rule.specs.Lines.{gain_of, loss_of}
use Rattle.mapper.specs.declared.terms.Terms.{Terms}
use Rattle.mapper.specs.declared.answer.Stepped.TheVariants.{Found, Spent}
use Rattle.mapper.specs.Deciding.{is_small, is_scorable, candidate_score, decides, decided}
use Rattle.mapper.specs.Walking.{scoring_in}

-- ---- the numbers of a scoring

-- so small that a line's numbers fit their words
abbrev pub SmallRates : Scoring → Type 0
SmallRates scoring = (loss_of scoring ≤ weight_limit) × (gain_of scoring < word_limit)

-- as they are where both numbers of a scoring are small, whatever its kind
pub small_rates : (kind first second threshold : ℕ) → (first ≤ weight_limit) × (second ≤ weight_limit)
    → SmallRates (scoring_in kind first second threshold)
small_rates kind first second threshold (small-first, small-second) = go (eqb kind 1)
  where
    go : (b : Bool) → SmallRates (cond b (Jaccard first second) (Linear first second (unbiased threshold)))
    go true = (omega arith, omega arith)
    go false = (small-second, omega arith)

module _ (x y limit : ℕ) where
  pub both_say : (leb x limit && leb y limit) ≡ true → (x ≤ limit) × (y ≤ limit)
  both_say t =
      (leb-true x limit (and_left (leb x limit) (leb y limit) t), leb-true y limit (and_right (leb x limit) (leb y limit) t))

-- the numbers of a linear scoring, and of a threshold f/g
pub linear_small : (scoring : Scoring) (u v : ℕ) (threshold : ℤ) → is_small scoring ≡ true → scoring ≡ Linear u v threshold
    → (u ≤ weight_limit) × (v ≤ weight_limit)
linear_small scoring u v threshold t e = both_say u v weight_limit (rw e at t)

pub fraction_small : (scoring : Scoring) (f g : ℕ) → is_small scoring ≡ true → scoring ≡ Jaccard f g
    → (f ≤ divisor_limit) × (g ≤ divisor_limit)
fraction_small scoring f g t e = both_say f g divisor_limit (rw e at t)

-- ---- a scoring and counts of a session

pub record Scorable (terms : Terms) (a b m : ℕ) : Type 0 where
  pub small : is_small terms.scoring ≡ true
  pub short_pattern : terms.size ≤ pattern_limit
  pub ordered : a ≤ b
  pub short : b - a < text_limit
  pub at_most_size : m ≤ terms.size
  pub at_most_len : m ≤ length_of a b

module _ (terms : Terms) (a b m : ℕ) where
  pub scorable_says : is_scorable terms a b m ≡ true → Scorable terms a b m
  unfolding is_scorable
  scorable_says t =
      let a₂ = is_small terms.scoring in
      let a₃ = a₂ && leb terms.size pattern_limit in
      let a₄ = a₃ && leb a b in
      let a₅ = a₄ && ltb (b - a) text_limit in
      let a₆ = a₅ && leb m terms.size in
      let t₆ = and_left a₆ (leb m (length_of a b)) t in
      let t₅ = and_left a₅ (leb m terms.size) t₆ in
      let t₄ = and_left a₄ (ltb (b - a) text_limit) t₅ in
      let t₃ = and_left a₃ (leb a b) t₄ in
      record {
        small = and_left a₂ (leb terms.size pattern_limit) t₃;
        short_pattern = leb-true terms.size pattern_limit (and_right a₂ (leb terms.size pattern_limit) t₃);
        ordered = leb-true a b (and_right a₃ (leb a b) t₄);
        short = ltb-true (b - a) text_limit (and_right a₄ (ltb (b - a) text_limit) t₅);
        at_most_size = leb-true m terms.size (and_right a₅ (leb m terms.size) t₆);
        at_most_len = leb-true m (length_of a b) (and_right a₆ (leb m (length_of a b)) t);
      }

  -- where all tests but the last hold, it decides
  pub last_test : is_small terms.scoring ≡ true → terms.size ≤ pattern_limit → a ≤ b → b - a < text_limit → m ≤ terms.size
      → is_scorable terms a b m ≡ leb m (length_of a b)
  unfolding is_scorable
  last_test i s o l k = simp (i, le-leb _ _ s, le-leb _ _ o, lt-ltb _ _ l, le-leb _ _ k)

  pub says_scorable : Scorable terms a b m → is_scorable terms a b m ≡ true
  says_scorable s = rw (last_test s.small s.short_pattern s.ordered s.short s.at_most_size) (le-leb m (length_of a b) s.at_most_len)

  pub decided_found : (cells : ℕ) → decides terms a b m ≡ true → decided terms a b m cells ≡ Found a b (candidate_score terms a b m) m cells
  unfolding decided
  decided_found cells t = rw t

  pub decided_spent : (cells : ℕ) → decides terms a b m ≡ false → decided terms a b m cells ≡ Spent cells
  unfolding decided
  decided_spent cells t = rw t

-- ---- the score, as the code computes it

module _ (terms : Terms) (a b m : ℕ) (ordered : a ≤ b) where
  pub linear_score : (u v : ℕ) (threshold : ℤ) → terms.scoring ≡ Linear u v threshold
      → candidate_score terms a b m ≡ Number (linear u v terms.size m (b - a + 1))
  unfolding candidate_score length_of
  linear_score u v threshold e = let len : b - a + 1 ≡ suc b - a = omega arith in rw (e, len)

  pub fraction_score : (f g : ℕ) → terms.scoring ≡ Jaccard f g
      → candidate_score terms a b m ≡ Fraction m (b - a + 1 + terms.size - m)
  unfolding candidate_score length_of divisor
  fraction_score f g e = let len : b - a + 1 ≡ suc b - a = omega arith in rw (e, len)

-- a number of the threshold times m or a divisor
pub product : (x y : ℕ) → x ≤ divisor_limit → y ≤ text_limit + pattern_limit → x * y < word_limit
product x y h k =
    let most : x * y ≤ divisor_limit * (text_limit + pattern_limit) = mul-le-mul {m₂ = text_limit + pattern_limit} h k in
    omega (arith, most)
