-- The scoring of a session, read back from its words; and the deciding test at a cell: a final cell is found, with the score of the definition.
use Prim.Native.Nat.{ℕ, ◌≤◌, ◌<◌}
use native.Mathlib.Nat.{le_trans}
use native.Mathlib.Omega.{arith}
use mathlib.Core.Path.{◌≡◌, refl, ap, ◌∙◌}
use mathlib.Core.Bool.{true}
use lib.ListN.{length, get_or}
use borrow.Author.Tests.{le-leb}
use Rattle.base.specs.Limits.{weight_limit, divisor_limit}
use Rattle.mappings.specs.declared.Scoring.{Scoring}
use Rattle.mappings.specs.declared.Scoring.TheVariants.{Linear, Jaccard}
use Rattle.mappings.specs.Score.{Task, ThresholdFits, threshold_of, at_most, score_of}
use Rattle.mappings.specs.Definition1.{AtMost}
use Rattle.mappings.specs.FinalTest.{is_final_cell}
use Rattle.mappings.specs.Cells.{hits, hit_count, left_end, right_end}
use Rattle.mappings.proofs.Cells.{cell_at}
use Rattle.mappings.proofs.Definition1.{test_final}
use Rattle.mappings.proofs.HitCodes.{cell_shared}
use Rattle.mappings.proofs.Hits.{hit_within, hit_at_most}
use Rattle.mappings.proofs.Range.{SmallNumbers, Limited, shared_le_len, shared_le_size}
use Rattle.mappings.proofs.Integers.{unbiased_biased_z}
use Rattle.session_start.specs.ScoreWords.{threshold_word}
use Rattle.session_start.specs.Numbers.{first_number, second_number, kind_number}
use Rattle.session_rule.specs.Lines.{shared_at}
use Rattle.mapper.specs.declared.terms.Terms.{Terms}
use Rattle.mapper.specs.declared.answer.Stepped.TheVariants.{Found}
use Rattle.mapper.specs.Deciding.{is_small, is_scorable, candidate_score, decides, decided}
use Rattle.mapper.specs.Walking.{scoring_in}
use Rattle.mapper.proofs.Deciding.{says_scorable, decided_found}

-- ---- the scoring

pub scoring_read : (scoring : Scoring) → ThresholdFits scoring
    → scoring_in (kind_number scoring) (first_number scoring) (second_number scoring) (threshold_word scoring) ≡ scoring
scoring_read (Linear u v threshold) fits = ap (Linear u v) (unbiased_biased_z threshold fits)
scoring_read (Jaccard f g) fits = refl

small_scoring : (scoring : Scoring) → SmallNumbers scoring → is_small scoring ≡ true
small_scoring (Linear u v threshold) (small-u, small-v) = rw (le-leb u weight_limit small-u) (le-leb v weight_limit small-v)
small_scoring (Jaccard f g) (at_most_one, some, small-g) =
    rw (le-leb f divisor_limit (le_trans at_most_one small-g)) (le-leb g divisor_limit small-g)

-- what the scores of a task share
abbrev pub terms_of : Task → Terms
terms_of task = record { scoring = task.scoring; size = length task.pattern }

-- ---- a cell

module _ (task : Task) (limited : Limited task) where
  module _ (i j : ℕ) (a : i ≤ j) (l : j < hit_count task) where
    abbrev x : ℕ
    x = get_or (hits task) i 0

    abbrev y : ℕ
    y = get_or (hits task) j 0

    -- scoring and counts of a cell are a session's
    counted : is_scorable (terms_of task) x y (shared_at task i j) ≡ true
    counted =
        let inside : y < length task.text = hit_within task j l in
        says_scorable (terms_of task) x y (shared_at task i j)
        (record {
          small = small_scoring task.scoring limited.small_numbers;
          short_pattern = limited.short_pattern;
          ordered = hit_at_most task i j a l;
          short = omega (arith, limited.short_text);
          at_most_size = rw (← cell_shared task i j a l) (shared_le_size task x y);
          at_most_len = rw (← cell_shared task i j a l) (shared_le_len task x y inside);
        })

    -- and its score is the definition's
    score_is : candidate_score (terms_of task) x y (shared_at task i j) ≡ score_of task x y
    unfolding candidate_score score_of
    score_is = rw (cell_shared task i j a l)

    enough : is_final_cell task (cell_at i j) ≡ true → at_most (threshold_of task.scoring) (score_of task x y) ≡ true
    unfolding is_final_cell left_end right_end AtMost
    enough f = (test_final task x y f).enough

    -- a final cell is found, with the score of the definition
    pub final_decided : is_final_cell task (cell_at i j) ≡ true
        → (cells : ℕ) → decided (terms_of task) x y (shared_at task i j) cells ≡ Found x y (score_of task x y) (shared_at task i j) cells
    unfolding decides
    final_decided f cells =
        let t : at_most (threshold_of task.scoring) (candidate_score (terms_of task) x y (shared_at task i j)) ≡ true = rw score_is (enough f) in
        decided_found (terms_of task) x y (shared_at task i j) cells (rw (counted, t)) ∙ rw score_is
