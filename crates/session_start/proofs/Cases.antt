-- Start's refusals with their limits and their order, words 0 to 3 after it, and what a small session holds after each cell: each is
-- computed from the definitions.
use Prim.Native.Nat.{ℕ, ◌≤◌, ◌<◌}
use mathlib.Core.Path.{◌≡◌, refl}
use mathlib.Core.List.{List, [], ◌∷◌, map}
use lib.ListN.{length, take, drop, replicate}
use lib.IntN.{pos, negsuc}
use borrow.Author.Tests.{lt-ltb, le-ltb}
use Rattle.base.specs.Replies.{accepted, refused}
use Rattle.mappings.specs.declared.Scoring.TheVariants.{Linear, Jaccard}
use Rattle.mappings.specs.Score.{Task, task_with}
use Rattle.mappings.proofs.Compute.{mappings_compute}
use Rattle.session_records.specs.Records.{greater, highest_before, with_record, block_top}
use Rattle.session_records.specs.Words.{fraction_word, numerator, denominator, at_most}
use Rattle.session_start.specs.ScoreWords.{score_word_of}
use Rattle.session_start.specs.WorkWords.{with_cell, best_after, highest_after, heading, tops_after, starts_after, tables, session_words}
use Rattle.session_start.specs.Start.{bad_weights, bad_fraction, start_reply, start_words}

abbrev task : ℕ → ℕ → List ℕ → List ℕ → Task
task u v text pattern = task_with text pattern (Linear u v (pos 1))

abbrev jaccard : ℕ → ℕ → List ℕ → List ℕ → Task
jaccard f g text pattern = task_with text pattern (Jaccard f g)

-- each refused call also breaks what is checked after it, or may
pub record StartRefusals : Type 0 where
  -- 7: u or v outside 1–1,000, with any text, pattern and work words
  pub u_low : (text pattern : List ℕ) (lent : ℕ) → start_reply (task 0 1 text pattern) lent ≡ refused 7 []
  pub u_high : (text pattern : List ℕ) (lent : ℕ) → start_reply (task 1001 1 text pattern) lent ≡ refused 7 []
  pub v_low : (text pattern : List ℕ) (lent : ℕ) → start_reply (task 1 0 text pattern) lent ≡ refused 7 []
  pub v_high : (text pattern : List ℕ) (lent : ℕ) → start_reply (task 1 1001 text pattern) lent ≡ refused 7 []
  -- 8: text over 65,535 entries
  pub text_long : (text pattern : List ℕ) (lent : ℕ) → 65535 < length text → start_reply (task 1000 1 text pattern) lent ≡ refused 8 []
  -- 9: pattern of 0 or over 4,096 entries
  pub pattern_empty : (text : List ℕ) (lent : ℕ) → length text ≤ 65535 → start_reply (task 1 1000 text []) lent ≡ refused 9 []
  pub pattern_long : start_reply (task 1 1 (replicate 2049 7) (replicate 4097 7)) 16383 ≡ refused 9 []
  -- 10: fewer than 16,384 work words
  pub words_few : start_reply (task 1 1 (replicate 2049 7) (replicate 4096 7)) 16383 ≡ refused 10 []
  -- 11, with h: h over 2,048
  pub hits_many : start_reply (task 1 1 (replicate 2049 7) (7 ∷ [])) 16384 ≡ refused 11 (2049 ∷ [])
  -- accepted, with h: h 2,048 of 2,049 entries; an empty text
  pub hits_most : start_reply (task 1000 1000 (8 ∷ replicate 2048 7) (7 ∷ [])) 16384 ≡ accepted (2048 ∷ [])
  pub text_empty : start_reply (task 1 1 [] (7 ∷ [])) 16384 ≡ accepted (0 ∷ [])

pub start_refusals : StartRefusals
unfolding mappings_compute bad_weights start_reply
start_refusals =
    record {
      u_low = λ text pattern lent. refl;
      u_high = λ text pattern lent. refl;
      v_low = λ text pattern lent. refl;
      v_high = λ text pattern lent. refl;
      text_long = λ text pattern lent over. rw (lt-ltb 65535 (length text) over) refl;
      pattern_empty = λ text lent within. rw (le-ltb 65535 (length text) within) refl;
      pattern_long = refl;
      words_few = refl;
      hits_many = refl;
      hits_most = refl;
      text_empty = refl;
    }

-- words 0 to 3 hold h, u, v and no cells passed; words beyond the first 16,384 stay; a refusal changes none
pub record StartWords : Type 0 where
  pub first_four : take 4 (start_words (task 5 6 (7 ∷ 8 ∷ 7 ∷ []) (7 ∷ 9 ∷ [])) (replicate 16384 99)) ≡ 2 ∷ 5 ∷ 6 ∷ 0 ∷ []
  pub beyond : drop 16384 (start_words (task 5 6 (7 ∷ 8 ∷ 7 ∷ []) (7 ∷ 9 ∷ [])) (replicate 16386 99)) ≡ 99 ∷ 99 ∷ []
  pub refused_same : (before : List ℕ) → start_words (task 0 1 (7 ∷ []) (7 ∷ [])) before ≡ before

pub start_words_lem : StartWords
unfolding mappings_compute bad_weights start_reply with_cell best_after highest_after heading tops_after starts_after tables session_words start_words
start_words_lem = record { first_four = refl; beyond = refl; refused_same = λ before. refl }

-- two hits of a code that the pattern has once, threshold −5: cells (0, 1), (1, 1) and (0, 0), which score 0, 1 and 1
abbrev twice : Task
twice = task_with (7 ∷ 7 ∷ []) (7 ∷ []) (Linear 1 1 (negsuc 4))

-- what changes with the cells passed: a record in each cell's row, and the greatest of them in the block; m of the next cell's column, whose
-- hits are 0 and 1, then 0, then none; and what the rows before the next cell have seen
pub record SessionWords : Type 0 where
  pub best : map (best_after twice) (0 ∷ 1 ∷ 2 ∷ 3 ∷ [])
      ≡ (0 ∷ 0 ∷ []) ∷ (2147483648 ∷ 0 ∷ []) ∷ (2147483648 ∷ 2147483649 ∷ []) ∷ (2147483649 ∷ 2147483649 ∷ []) ∷ []
  pub tops : map (tops_after twice) (0 ∷ 1 ∷ 2 ∷ 3 ∷ []) ≡ (0 ∷ []) ∷ (2147483648 ∷ []) ∷ (2147483649 ∷ []) ∷ (2147483649 ∷ []) ∷ []
  pub starts : map (starts_after twice) (0 ∷ 1 ∷ 2 ∷ 3 ∷ []) ≡ (1 ∷ 0 ∷ []) ∷ (1 ∷ 0 ∷ []) ∷ (1 ∷ 0 ∷ []) ∷ (0 ∷ 0 ∷ []) ∷ []
  pub highest : map (highest_after twice) (0 ∷ 1 ∷ 2 ∷ 3 ∷ []) ≡ 2147483643 ∷ 2147483648 ∷ 2147483643 ∷ 2147483643 ∷ []

pub session_words_lem : SessionWords
unfolding mappings_compute greater highest_before with_record block_top at_most score_word_of with_cell best_after highest_after tops_after starts_after
session_words_lem = record { best = refl; tops = refl; starts = refl; highest = refl }

-- ---- the weighted Jaccard

pub record JaccardStarts : Type 0 where
  -- 17: g outside 1–1,000, or f over g, with any text, pattern and work words, so before 8 to 11
  pub g_low : (text pattern : List ℕ) (lent : ℕ) → start_reply (jaccard 0 0 text pattern) lent ≡ refused 17 []
  pub g_high : (text pattern : List ℕ) (lent : ℕ) → start_reply (jaccard 1 1001 text pattern) lent ≡ refused 17 []
  pub f_over : (text pattern : List ℕ) (lent : ℕ) → start_reply (jaccard 1000 999 text pattern) lent ≡ refused 17 []
  pub text_long : (text pattern : List ℕ) (lent : ℕ) → 65535 < length text → start_reply (jaccard 1 2 text pattern) lent ≡ refused 8 []
  -- accepted: f = 0, though no weight may be 0; f = g
  pub f_zero : start_reply (jaccard 0 1 (7 ∷ []) (7 ∷ [])) 16384 ≡ accepted (1 ∷ [])
  pub f_equal : start_reply (jaccard 1000 1000 (7 ∷ []) (7 ∷ [])) 16384 ≡ accepted (1 ∷ [])

pub jaccard_starts : JaccardStarts
unfolding mappings_compute bad_fraction start_reply
jaccard_starts =
    record {
      g_low = λ text pattern lent. refl;
      g_high = λ text pattern lent. refl;
      f_over = λ text pattern lent. refl;
      text_long = λ text pattern lent over. rw (lt-ltb 65535 (length text) over) refl;
      f_zero = refl;
      f_equal = refl;
    }

-- the two hits again, with a threshold of 0/1: their cells score 1/2, 1/1 and 1/1
abbrev twice_jaccard : Task
twice_jaccard = jaccard 0 1 (7 ∷ 7 ∷ []) (7 ∷ [])

-- words 0 to 10 of a fresh session: f and g in words 1 and 2, 1 in word 4, f/g in words 6 and 10, the least word for 0/g; and records of
-- fractions
pub record JaccardWords : Type 0 where
  pub fresh : heading (jaccard 3 5 (7 ∷ 8 ∷ 7 ∷ []) (7 ∷ 9 ∷ [])) 0
      ≡ 2 ∷ 3 ∷ 5 ∷ 0 ∷ 1 ∷ 2 ∷ 6291450 ∷ 2 ∷ 0 ∷ 1 ∷ 6291450 ∷ []
  pub fresh_zero : heading twice_jaccard 0 ≡ 2 ∷ 0 ∷ 1 ∷ 0 ∷ 1 ∷ 1 ∷ 0 ∷ 2 ∷ 0 ∷ 1 ∷ 0 ∷ []
  pub best : map (best_after twice_jaccard) (0 ∷ 1 ∷ 2 ∷ 3 ∷ [])
      ≡ (0 ∷ 0 ∷ []) ∷ (2097149 ∷ 0 ∷ []) ∷ (2097149 ∷ 2097150 ∷ []) ∷ (2097150 ∷ 2097150 ∷ []) ∷ []

pub jaccard_words : JaccardWords
unfolding mappings_compute greater highest_before with_record fraction_word numerator denominator at_most score_word_of with_cell best_after highest_after
    heading
jaccard_words = record { fresh = refl; fresh_zero = refl; best = refl }
