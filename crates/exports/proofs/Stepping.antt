-- The numbers of an exported step wherever document 01 fixes the answer: refused with 10 or 15, and in a session, by the rule.
use Prim.Native.Nat.{ℕ, ◌+◌, ◌≤◌}
use mathlib.Core.Bool.{true, false}
use mathlib.Core.Path.{◌≡◌, ap, ◌∙◌}
use mathlib.Core.List.{List}
use Rattle.mappings.specs.Score.{Task}
use Rattle.mappings.specs.Cells.{hit_count, cell_count}
use Rattle.mappings.specs.Rule.{Answer, refused, reported, rule_answer}
use Rattle.session_start.specs.WorkWords.{session_words}
use Rattle.mapper.specs.Step.{too_few_words, bad_words}
use Rattle.mapper.specs.Answers.{answer_of}
use Rattle.mapper.specs.Promise.{Accepts}
use Rattle.exports.specs.Steps.{Lent, kind_of, lent_after, Steps}

-- the numbers are those of this answer, and the work words these
pub record Told (answer : Answer) (before : Lent) (words : List ℕ) (kind : ℕ) (work' : List ℕ) (after : Lent) (cells : ℕ) : Type 0 where
  pub kind_told : kind ≡ kind_of answer
  pub lent_told : after ≡ lent_after answer before
  pub cells_told : cells ≡ reported answer
  pub words_told : work' ≡ words

module _ {work work' : List ℕ} {budget kind cells : ℕ} {before after : Lent} (s : Steps work budget before kind work' after cells) where
  told : {answer : Answer} {words : List ℕ} → (answer_of s.answer ≡ answer) × (work' ≡ words) → Told answer before words kind work' after cells
  told e = record {
    kind_told = s.kind_is ∙ ap kind_of e.0;
    lent_told = s.lent_is ∙ ap (λ (answer : Answer). lent_after answer before) e.0;
    cells_told = s.cells_is ∙ ap reported e.0;
    words_told = e.1;
  }

  pub few_told : too_few_words work ≡ true → Told (refused 10) before work kind work' after cells
  few_told few = told (s.promise.few few)

  pub bad_told : too_few_words work ≡ false → bad_words work ≡ true → Told (refused 15) before work kind work' after cells
  bad_told enough bad = told (s.promise.bad enough bad)

  -- the words of a session after q cells
  pub session_told : (task : Task) (words : List ℕ) (q : ℕ) → Accepts task words → q ≤ cell_count (hit_count task)
      → work ≡ session_words task words q
      → Told (rule_answer task q budget) before (session_words task words (q + reported (rule_answer task q budget))) kind work' after cells
  session_told task words q accepts among e = told (s.promise.session task words q accepts among e)
