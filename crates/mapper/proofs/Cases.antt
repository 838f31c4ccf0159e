-- When step refuses, and what the deciding test answers, at the limits: each is computed from the definitions.
use Rattle.std.specs.Prelude.{Result}
use Prim.Native.Nat.{ℕ}
use mathlib.Core.Bool.{true, false}
use mathlib.Core.Path.{◌≡◌, refl}
use mathlib.Core.List.{List, [], ◌∷◌}
use lib.IntN.{pos, negsuc}
use lib.ListN.{replicate}
use Rattle.base.specs.declared.refusal.Refusal.{Refusal}
use Rattle.mappings.specs.declared.Score.TheVariants.{Number, Fraction}
use Rattle.mappings.specs.declared.Scoring.{Scoring}
use Rattle.mappings.specs.declared.Scoring.TheVariants.{Linear, Jaccard}
use Rattle.mappings.specs.Score.{distance, linear, divisor, length_of}
use Rattle.mappings.specs.Cells.{cell_count}
use Rattle.mappings.specs.Rule.{refused}
use Rattle.session_start.specs.Start.{bad_weights, bad_fraction}
use Rattle.mapper.specs.Step.{too_few_words, bad_words}
use Rattle.mapper.specs.Answers.{answer_of}
use Rattle.mapper.specs.Promise.{StepPromise}
use Rattle.mapper.specs.Deciding.{is_scorable, candidate_score, decides, decided}
use Rattle.mapper.specs.declared.terms.Terms.{Terms}
use Rattle.mapper.specs.declared.answer.Stepped.{Stepped}
use Rattle.mapper.specs.declared.answer.Stepped.TheVariants.{Found, Spent}

pub record StepRefusals : Type 0 where
  -- 10: fewer than 16,384 work words
  pub few : too_few_words (replicate 16383 0) ≡ true
  pub enough : too_few_words (replicate 16384 0) ≡ false
  -- 10 goes before 15: one word, h over 2,048
  pub few_first : (budget : ℕ) (answer : Result Stepped Refusal) (after : List ℕ) → StepPromise (2049 ∷ []) budget answer after → answer_of answer ≡ refused 10
  -- 15: h over 2,048; u or v outside 1–1,000
  pub hits : bad_words (2049 ∷ 1 ∷ 1 ∷ 0 ∷ 0 ∷ []) ≡ true
  pub u_low : bad_words (1 ∷ 0 ∷ 1 ∷ 0 ∷ 0 ∷ []) ≡ true
  pub u_high : bad_words (1 ∷ 1001 ∷ 1 ∷ 0 ∷ 0 ∷ []) ≡ true
  pub v_low : bad_words (1 ∷ 1 ∷ 0 ∷ 0 ∷ 0 ∷ []) ≡ true
  pub v_high : bad_words (1 ∷ 1 ∷ 1001 ∷ 0 ∷ 0 ∷ []) ≡ true
  -- 15: under Jaccard g outside 1–1,000, or f over g
  pub g_low : bad_words (1 ∷ 0 ∷ 0 ∷ 0 ∷ 1 ∷ []) ≡ true
  pub g_high : bad_words (1 ∷ 1 ∷ 1001 ∷ 0 ∷ 1 ∷ []) ≡ true
  pub f_over : bad_words (1 ∷ 2 ∷ 1 ∷ 0 ∷ 1 ∷ []) ≡ true
  -- 15: a kind of score that is neither 0 nor 1
  pub kind : bad_words (1 ∷ 1 ∷ 1 ∷ 0 ∷ 2 ∷ []) ≡ true
  -- 15: more cells passed than h(h + 1)/2, which are 0 for h 0 and 2,098,176 for h 2,048
  pub passed : bad_words (2048 ∷ 1000 ∷ 1 ∷ 2098177 ∷ 0 ∷ []) ≡ true
  pub passed_none : bad_words (0 ∷ 1 ∷ 1000 ∷ 1 ∷ 0 ∷ []) ≡ true
  -- not refused: all cells passed, with the highest h and u; none passed, with no hit and the highest v
  pub last : bad_words (2048 ∷ 1000 ∷ 1 ∷ 2098176 ∷ 0 ∷ []) ≡ false
  pub fresh : bad_words (0 ∷ 1 ∷ 1000 ∷ 0 ∷ 0 ∷ []) ≡ false
  -- not refused under Jaccard: f 0, and the highest f and g
  pub f_none : bad_words (1 ∷ 0 ∷ 1 ∷ 0 ∷ 1 ∷ []) ≡ false
  pub f_highest : bad_words (1 ∷ 1000 ∷ 1000 ∷ 0 ∷ 1 ∷ []) ≡ false

pub step_refusals : StepRefusals
unfolding cell_count bad_weights bad_fraction too_few_words bad_words
step_refusals =
    record {
      few = refl;
      enough = refl;
      few_first = λ budget answer after promise. (promise.few refl).0;
      hits = refl;
      u_low = refl;
      u_high = refl;
      v_low = refl;
      v_high = refl;
      g_low = refl;
      g_high = refl;
      f_over = refl;
      kind = refl;
      passed = refl;
      passed_none = refl;
      last = refl;
      fresh = refl;
      f_none = refl;
      f_highest = refl;
    }

-- ---- the deciding test

-- |p| of 3
abbrev of_three : Scoring → Terms
of_three scoring = record { scoring = scoring; size = 3 }

pub record Decisions : Type 0 where
  -- m 2 of four entries: the score 2 − 3·1 against the thresholds −1 and 0
  pub linear_met : decided (of_three (Linear 1 1 (negsuc 0))) 5 8 2 7 ≡ Found 5 8 (Number (negsuc 0)) 2 7
  pub linear_below : decided (of_three (Linear 1 1 (pos 0))) 5 8 2 7 ≡ Spent 7
  -- m 2 of three entries: 2/4 meets the threshold 1/2 exactly, and stays as it is; 500/1,000 is the same threshold, and 501/1,000 is above it
  pub fraction_met : decided (of_three (Jaccard 1 2)) 5 7 2 7 ≡ Found 5 7 (Fraction 2 4) 2 7
  pub same_threshold : decided (of_three (Jaccard 500 1000)) 5 7 2 7 ≡ Found 5 7 (Fraction 2 4) 2 7
  pub fraction_below : decided (of_three (Jaccard 501 1000)) 5 7 2 7 ≡ Spent 7
  -- numbers that no start accepts
  pub large_weight : decided (of_three (Linear 1001 1 (pos 0))) 5 7 3 7 ≡ Spent 7
  pub large_divisor : decided (of_three (Jaccard 0 1001)) 5 7 3 7 ≡ Spent 7

pub decisions : Decisions
unfolding distance linear divisor length_of is_scorable candidate_score decides decided
decisions =
    record {
      linear_met = refl;
      linear_below = refl;
      fraction_met = refl;
      same_threshold = refl;
      fraction_below = refl;
      large_weight = refl;
      large_divisor = refl;
    }
