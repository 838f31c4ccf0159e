-- What a session takes of a score, by the two cases: its words are monotone, a line's are those of its column's cells, a cell of a line
-- matters by the order of the words, and they order as the scores do. No other file of this crate asks which score it is.
use Prim.Native.Nat.{ℕ, zero, suc, ◌+◌, ◌-◌, ◌*◌, ◌%◌, ◌≤◌, ◌<◌}
use native.Mathlib.Nat.{le_refl, mul-add, mul-le-mul, add-mod-mod}
use native.Mathlib.Omega.{arith}
use mathlib.Core.Path.{◌≡◌, sym, ap, ◌∙◌}
use mathlib.Core.Bool.{true, false, cond}
use lib.Arith.{digits_mod}
use lib.Dec.{leb}
use lib.ListN.{length, get_or}
use borrow.Author.Tests.{le-leb}
use Rattle.base.specs.Limits.{text_limit, pattern_limit, weight_limit, hit_limit, word_limit}
use Rattle.mappings.specs.declared.Scoring.{Scoring}
use Rattle.mappings.specs.declared.Scoring.TheVariants.{Linear, Jaccard}
use Rattle.mappings.specs.Score.{Task, divisor, scored, threshold_of, at_most as score_at_most, length_of, shared_of, score_of, ThresholdFits}
use Rattle.mappings.specs.Bias.{bias, biased}
use Rattle.mappings.specs.Cells.{hits, hit_count}
use Rattle.mappings.proofs.Hits.{hit_within, hit_at_most}
use Rattle.mappings.proofs.Range.{SmallNumbers, Limited, lengths, twice_shared, linear_order, linear_threshold}
use Rattle.session_records.specs.Order.{Monotone}
use Rattle.session_records.specs.Words.{divisor_span, fraction_word, numerator, denominator, at_most}
use Rattle.session_records.proofs.Words.{word_order, numerator_word, denominator_word, fraction_monotone}
use Rattle.session_start.specs.ScoreWords.{by_fractions, score_word, threshold_word, score_word_of}
use Rattle.session_start.specs.WorkWords.{order_of}
use Rattle.session_cells.specs.Passing.{line_score, line_divisor, matters}
use Rattle.session_rule.specs.Lines.{margin, gain_of, loss_of, lift_of, session_line}

-- ---- the score word does not fall with m and does not rise with len

numbers_monotone : (u v size : ℕ) → Monotone (at_most false) (biased u v size)
unfolding biased at_most
numbers_monotone u v size = record {
  with_m = λ m m' len l.
      (let lost = v * (len + size) in
      falls ((u + 2 * v) * m) ((u + 2 * v) * m') lost lost (mul-le-mul (le_refl (u + 2 * v)) l) (le_refl lost));
  with_len = λ m len len' l.
      (let gained = (u + 2 * v) * m in
      let longer : len + size ≤ len' + size = omega arith in
      falls gained gained (v * (len + size)) (v * (len' + size)) (le_refl gained) (mul-le-mul (le_refl v) longer));
}
  where
    falls : (a b c d : ℕ) → a ≤ b → c ≤ d → leb (a + bias - d) (b + bias - c) ≡ true
    falls a b c d h k = le-leb (a + bias - d) (b + bias - c) (omega arith)

pub words_monotone : (scoring : Scoring) (size : ℕ) → Monotone (at_most (by_fractions scoring)) (score_word scoring size)
unfolding divisor
words_monotone (Linear u v threshold) size = numbers_monotone u v size
words_monotone (Jaccard f g) size = fraction_monotone size

-- ---- a line's score word

-- gain·m + loss·x + base, where base has the column's part and a multiple of 2^32 added: the remainder is what is left without it
remainder : (word gained lifted turns : ℕ) → gained + lifted ≡ turns * word_limit + word → word < word_limit
    → (gained + lifted % word_limit) % word_limit ≡ word
remainder word gained lifted turns e l = add-mod-mod gained lifted word_limit ∙ ap (λ (n : ℕ). n % word_limit) e ∙ digits_mod turns l

number_is : (u v size m x y : ℕ) → u ≤ weight_limit → v ≤ weight_limit → x ≤ y → y < text_limit → size ≤ pattern_limit → m ≤ size
    → ((u + 2 * v) * m + v * x + (margin + bias - v * (y + 1 + size)) % word_limit) % word_limit ≡ biased u v size m (suc y - x)
unfolding biased
number_is u v size m x y small-u small-v a short_text short_pattern few =
    let e : y + 1 + size ≡ x + (suc y - x + size) = omega arith in
    let f : v * (y + 1 + size) ≡ v * x + v * (suc y - x + size) = ap (λ (n : ℕ). v * n) e ∙ mul-add v x (suc y - x + size) in
    let lost : v * (y + 1 + size) ≤ weight_limit * (text_limit + pattern_limit) =
    mul-le-mul {m₂ = text_limit + pattern_limit} small-v (omega arith) in
    let weight : u + 2 * v ≤ 3 * weight_limit = omega arith in
    let less : m ≤ pattern_limit = omega arith in
    let gained : (u + 2 * v) * m ≤ 3 * weight_limit * pattern_limit = mul-le-mul weight less in
    remainder ((u + 2 * v) * m + bias - v * (suc y - x + size)) ((u + 2 * v) * m + v * x) (margin + bias - v * (y + 1 + size)) (2 * weight_limit)
    (shifted ((u + 2 * v) * m) (v * x) (v * (suc y - x + size)) (v * (y + 1 + size)) f (omega arith)) (omega arith)
  where
    shifted : (gained left right both : ℕ) → both ≡ left + right → both ≤ bias
        → gained + left + (margin + bias - both) ≡ margin + (gained + bias - right)
    shifted gained left right both e l = omega arith

fraction_is : (size m x y : ℕ) → x ≤ y → y < text_limit → size ≤ pattern_limit → 1 ≤ m → m ≤ size → m ≤ hit_limit
    → ((divisor_span + 1) * m + 1 * x + (margin - 1 - 1 * (y + 1 + size)) % word_limit) % word_limit ≡ fraction_word m (suc y - x + size - m)
unfolding fraction_word
fraction_is size m x y a short_text short_pattern some few small =
    remainder ((m - 1) * divisor_span + (divisor_span - 1 - (suc y - x + size - m))) ((divisor_span + 1) * m + 1 * x)
    (margin - 1 - 1 * (y + 1 + size)) (2 * weight_limit) (omega arith) (omega arith)

word_is : (scoring : Scoring) → SmallNumbers scoring → (size m x y : ℕ) → x ≤ y → y < text_limit → size ≤ pattern_limit
    → 1 ≤ m → m ≤ size → m ≤ hit_limit
    → (gain_of scoring * m + loss_of scoring * x + (lift_of scoring - loss_of scoring * (y + 1 + size)) % word_limit) % word_limit
    ≡ score_word scoring size m (suc y - x)
unfolding divisor
word_is (Linear u v threshold) numbers size m x y a short_text short_pattern some few small =
    number_is u v size m x y numbers.0 numbers.1 a short_text short_pattern few
word_is (Jaccard f g) numbers size m x y a short_text short_pattern some few small =
    fraction_is size m x y a short_text short_pattern some few small

-- by any m that the pattern and the hits allow, and the index of a hit of the column
pub line_score_lem : (task : Task) → Limited task → (i j m : ℕ) → i ≤ j → j < hit_count task
    → 1 ≤ m → m ≤ length task.pattern → m ≤ hit_limit
    → line_score (session_line task j) m (get_or (hits task) i 0)
    ≡ score_word task.scoring (length task.pattern) m (suc (get_or (hits task) j 0) - get_or (hits task) i 0)
unfolding line_score
line_score_lem task limited i j m a l some few small =
    word_is task.scoring limited.small_numbers (length task.pattern) m (get_or (hits task) i 0) (get_or (hits task) j 0) (hit_at_most task i j a l)
    (omega (arith, hit_within task j l, limited.short_text)) limited.short_pattern some few small

-- ---- whether a cell of a line matters

-- base is 2^32 − 1 − (y + 1 + size): 2^32 twice is what line_divisor adds to the divisor
divisor_is : (size m x y : ℕ) → x ≤ y → y < text_limit → size ≤ pattern_limit → m ≤ size
    → (3 * word_limit - 1 - (margin - 1 - 1 * (y + 1 + size)) % word_limit - x - m) % word_limit ≡ suc y - x + size - m
divisor_is size m x y a short_text short_pattern few =
    less (y + 1 + size) (suc y - x + size - m) (omega arith) (omega arith)
  where
    less : (both rest : ℕ) → both ≡ rest + x + m → both < word_limit
        → (3 * word_limit - 1 - (margin - 1 - 1 * both) % word_limit - x - m) % word_limit ≡ rest
    less both rest e l =
        let lifted : margin - 1 - 1 * both ≡ (2 * weight_limit - 1) * word_limit + (word_limit - 1 - both) = omega arith in
        let base : (margin - 1 - 1 * both) % word_limit ≡ word_limit - 1 - both =
        ap (λ (n : ℕ). n % word_limit) lifted ∙ digits_mod (2 * weight_limit - 1) (let g : word_limit - 1 - both < word_limit = omega arith in g) in
        let f : 3 * word_limit - 1 - (word_limit - 1 - both) - x - m ≡ 2 * word_limit + rest = omega arith in
        rw base (ap (λ (n : ℕ). n % word_limit) f ∙ digits_mod 2 (let g : rest < word_limit = omega arith in g))

order_is : (scoring : Scoring) → SmallNumbers scoring → (size m x y seen : ℕ) → x ≤ y → y < text_limit → size ≤ pattern_limit
    → 1 ≤ m → m ≤ size
    → cond (by_fractions scoring)
    (leb (numerator seen * ((3 * word_limit - 1 - (lift_of scoring - loss_of scoring * (y + 1 + size)) % word_limit - x - m) % word_limit))
    (m * denominator seen))
    (leb seen ((gain_of scoring * m + loss_of scoring * x + (lift_of scoring - loss_of scoring * (y + 1 + size)) % word_limit) % word_limit))
    ≡ at_most (by_fractions scoring) seen (score_word scoring size m (suc y - x))
unfolding divisor at_most
order_is (Linear u v threshold) numbers size m x y seen a short_text short_pattern some few =
    ap (leb seen) (number_is u v size m x y numbers.0 numbers.1 a short_text short_pattern few)
order_is (Jaccard f g) numbers size m x y seen a short_text short_pattern some few =
    let d : suc y - x + size - m < divisor_span = omega arith in
    rw (
      divisor_is size m x y a short_text short_pattern few,
      numerator_word m (suc y - x + size - m) some d,
      denominator_word m (suc y - x + size - m) some d,
    )

-- a fraction is compared without its word, and as its word is
pub matters_order : (task : Task) → Limited task → (i j m seen : ℕ) → i ≤ j → j < hit_count task → 1 ≤ m → m ≤ length task.pattern
    → matters (session_line task j) seen m (get_or (hits task) i 0)
    ≡ order_of task seen (score_word task.scoring (length task.pattern) m (suc (get_or (hits task) j 0) - get_or (hits task) i 0))
unfolding matters line_divisor line_score
matters_order task limited i j m seen a l some few =
    order_is task.scoring limited.small_numbers (length task.pattern) m (get_or (hits task) i 0) (get_or (hits task) j 0) seen
    (hit_at_most task i j a l) (omega (arith, hit_within task j l, limited.short_text)) limited.short_pattern some few

-- ---- the words order as the scores do

-- what the orders ask of m and len of an interval that shares an entry
record Within (size m len : ℕ) : Type 0 where
  some : 1 ≤ m
  short : len + size ≤ text_limit + pattern_limit
  twice : 2 * m ≤ len + size

within : (task : Task) → Limited task → (a b : ℕ) → b < length task.text → 1 ≤ shared_of task a b
    → Within (length task.pattern) (shared_of task a b) (length_of a b)
within task limited a b l some = record { some = some; short = lengths task limited a b l; twice = twice_shared task a b l }

words_order : (scoring : Scoring) → SmallNumbers scoring → (size m len m' len' : ℕ) → Within size m len → Within size m' len'
    → score_at_most (scored scoring size m len) (scored scoring size m' len')
    ≡ at_most (by_fractions scoring) (score_word scoring size m len) (score_word scoring size m' len')
unfolding divisor at_most
words_order (Linear u v threshold) numbers size m len m' len' w w' =
    linear_order u v size m len m' len' numbers.1 w.short w.twice w'.short w'.twice
words_order (Jaccard f g) numbers size m len m' len' w w' =
    let d : len + size - m < divisor_span = omega (arith, w.short) in
    let d' : len' + size - m' < divisor_span = omega (arith, w'.short) in
    rw (
      numerator_word m (len + size - m) w.some d,
      denominator_word m (len + size - m) w.some d,
      numerator_word m' (len' + size - m') w'.some d',
      denominator_word m' (len' + size - m') w'.some d',
    )

pub scores_order : (task : Task) → Limited task → (a b c d : ℕ) → b < length task.text → d < length task.text
    → 1 ≤ shared_of task a b → 1 ≤ shared_of task c d
    → score_at_most (score_of task a b) (score_of task c d) ≡ order_of task (score_word_of task a b) (score_word_of task c d)
unfolding score_of score_word_of
scores_order task limited a b c d h k s t =
    words_order task.scoring limited.small_numbers (length task.pattern) (shared_of task a b) (length_of a b) (shared_of task c d) (length_of c d)
    (within task limited a b h s) (within task limited c d k t)

threshold_word_lem : (scoring : Scoring) → SmallNumbers scoring → ThresholdFits scoring → (size m len : ℕ) → Within size m len
    → score_at_most (threshold_of scoring) (scored scoring size m len)
    ≡ at_most (by_fractions scoring) (threshold_word scoring) (score_word scoring size m len)
unfolding divisor at_most
threshold_word_lem (Linear u v threshold) numbers fits size m len w =
    linear_threshold u v size m len threshold numbers.1 fits w.short w.twice
threshold_word_lem (Jaccard zero g) numbers fits size m len w =
    le-leb (0 * (len + size - m)) (m * g) (omega arith) ∙ sym ((word_order true).lowest (fraction_word m (divisor len size m)))
threshold_word_lem (Jaccard (suc f) g) numbers fits size m len w =
    let d : len + size - m < divisor_span = omega (arith, w.short) in
    let e : g < divisor_span = omega arith in
    rw (
      numerator_word m (len + size - m) w.some d,
      denominator_word m (len + size - m) w.some d,
      numerator_word (suc f) g (omega arith) e,
      denominator_word (suc f) g (omega arith) e,
    )

-- and against the threshold
pub threshold_order : (task : Task) → Limited task → ThresholdFits task.scoring → (a b : ℕ) → b < length task.text → 1 ≤ shared_of task a b
    → score_at_most (threshold_of task.scoring) (score_of task a b) ≡ order_of task (threshold_word task.scoring) (score_word_of task a b)
unfolding score_of score_word_of
threshold_order task limited fits a b h s =
    threshold_word_lem task.scoring limited.small_numbers fits (length task.pattern) (shared_of task a b) (length_of a b) (within task limited a b h s)
