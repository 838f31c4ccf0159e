-- What start answers by the tests it took, and the work words that go with an answer.
use Prim.Native.Nat.{ℕ, ◌≤◌, ◌<◌}
use native.Mathlib.Nat.{le_refl}
use mathlib.Core.Path.{◌≡◌, sym, ap, ◌∙◌}
use mathlib.Core.Bool.{true, false}
use mathlib.Core.List.{List, [], ◌∷◌, ◌++◌}
use lib.ListN.{length, take, drop, take-append-drop}
use lib.Dec.{eqb, ltb}
use mathlib.Core.Logic.{◌⊎◌, inl, inr}
use borrow.Author.Tests.{lt-ltb, le-ltb, ltb-false}
use Rattle.base.specs.Replies.{Reply, accepted, refused}
use Rattle.base.proofs.Replies.{not_refused}
use Rattle.base.specs.Limits.{text_limit, pattern_limit, hit_limit, work_words}
use Rattle.mappings.specs.declared.Scoring.{Scoring}
use Rattle.mappings.specs.declared.Scoring.TheVariants.{Linear, Jaccard}
use Rattle.mappings.specs.Score.{Task}
use Rattle.mappings.specs.Cells.{hit_count}
use Rattle.session_start.specs.Start.{judged, start_reply, start_words, after_start}
use Rattle.session_start.specs.Noting.{bad_scoring, hit_reply}
use Rattle.session_start.proofs.WorkWords.{part_session}

-- the words that go with the answer
pub words_of : (task : Task) (before : List ℕ) (reply : Reply) → reply ≡ start_reply task (length before)
    → after_start reply task before ≡ start_words task before
unfolding start_words
words_of task before reply e = ap (λ (r : Reply). after_start r task before) e

-- the same where the first words alone were lent
pub chunk_words : (task : Task) (before first now : List ℕ) (reply : Reply) → reply ≡ hit_reply task → reply ≡ start_reply task (length before)
    → work_words ≤ length before
    → first ≡ take work_words before
    → now ≡ after_start reply task first
    → now ++ drop work_words before ≡ start_words task before
unfolding hit_reply
chunk_words task before first now (accepted values) hit e many part after =
    let found = not_refused (ltb hit_limit (hit_count task)) 11 (hit_count task ∷ []) (accepted (hit_count task ∷ [])) values (sym hit) in
    let small : hit_count task ≤ hit_limit = ltb-false hit_limit (hit_count task) found.0 in
    rw (after, part) (part_session task small before work_words (le_refl work_words) many 0 ∙ words_of task before (accepted values) e)
chunk_words task before first now (refused number values) hit e many part after =
    rw (after, part) (take-append-drop work_words before ∙ words_of task before (refused number values) e)

-- ---- the scoring is judged first

judged_good : (scoring : Scoring) (next : Reply) → bad_scoring scoring ≡ false → next ≡ judged scoring next
judged_good (Linear u v threshold) next e = rw e
judged_good (Jaccard f g) next e = rw e

module _ (task : Task) (lent : ℕ) where
  -- a refusal of the scoring is the answer, whatever else is judged
  pub bad_numbers : (reply : Reply) → ((next : Reply) → reply ≡ judged task.scoring next) → reply ≡ start_reply task lent
  unfolding start_reply
  bad_numbers reply e = e _

  module _ (good : bad_scoring task.scoring ≡ false) where
    pub long_text : text_limit < length task.text → refused 8 [] ≡ start_reply task lent
    unfolding start_reply
    long_text h = rw (lt-ltb text_limit (length task.text) h) (judged_good task.scoring (refused 8 []) good)

    module _ (fits : length task.text ≤ text_limit) where
      pub bad_pattern : (eqb (length task.pattern) 0 ≡ true) ⊎ ((eqb (length task.pattern) 0 ≡ false) × (pattern_limit < length task.pattern))
          → refused 9 [] ≡ start_reply task lent
      unfolding start_reply
      bad_pattern (inl empty) = rw (le-ltb text_limit (length task.text) fits, empty) (judged_good task.scoring (refused 9 []) good)
      bad_pattern (inr (some, long)) =
          rw (le-ltb text_limit (length task.text) fits, some, lt-ltb pattern_limit (length task.pattern) long)
          (judged_good task.scoring (refused 9 []) good)

      module _ (some : eqb (length task.pattern) 0 ≡ false) (short : length task.pattern ≤ pattern_limit) where
        pub few_words : lent < work_words → refused 10 [] ≡ start_reply task lent
        unfolding start_reply
        few_words h =
            rw (le-ltb text_limit (length task.text) fits, some, le-ltb pattern_limit (length task.pattern) short, lt-ltb lent work_words h)
            (judged_good task.scoring (refused 10 []) good)

        -- only the number of hits is left to judge
        pub hits_left : work_words ≤ lent → hit_reply task ≡ start_reply task lent
        unfolding start_reply hit_reply
        hits_left h =
            rw (le-ltb text_limit (length task.text) fits, some, le-ltb pattern_limit (length task.pattern) short, le-ltb lent work_words h)
            (judged_good task.scoring (hit_reply task) good)
