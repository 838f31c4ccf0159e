-- Lists of steps as step's own promise has them, and demand 3: one claim about the whole list, over the letters of text and read.
use Rattle.std.specs.Prelude.{ℕ, suc, ◌≤◌, ◌<◌, ◌≡◌, List, [], ◌∷◌, ◌++◌, length, get_or, take, drop, Result}
use Rattle.base.specs.declared.refusal.Refusal.{Refusal}
use Rattle.base.specs.Replies.{accepted}
use Rattle.sketch.specs.Replies.{sketch_reply, sketch_codes, sketch_positions}
use Rattle.strike.specs.Strike.{strike_reply, strike_codes}
use Rattle.base.specs.Limits.{work_words}
use Rattle.mappings.specs.Score.{Task, task_with, ThresholdFits}
use Rattle.mappings.specs.Cells.{hit_count}
use Rattle.mappings.specs.Rule.{Answer, Step}
use Rattle.mappings.specs.Demand.{step_at, passed_before, Demanded}
use Rattle.requests.specs.declared.Settings.{Settings}
use Rattle.session_words.specs.FirstWords.{hits_at, u_at, v_at, passed_at, kind_at}
use Rattle.session_start.specs.Numbers.{first_number, second_number, kind_number}
use Rattle.session_start.specs.Start.{start_reply}
use Rattle.mapper.specs.declared.answer.Stepped.{Stepped}
use Rattle.mapper.specs.Answers.{answer_of}
use Rattle.mapper.specs.Promise.{StepPromise}

-- the work words before a list of steps, the steps, their answers, and the work words after each step: a step gets the words, or a first
-- part of them, as start or the step before it left them, and answers and leaves what its promise says
pub data Ran : List ℕ → List Step → List Answer → List (List ℕ) → Type 0 where
  none : {work : List ℕ} → Ran work [] [] []
  then : {work after : List ℕ} {step : Step} {steps : List Step} {answer : Result Stepped Refusal} {given : List Answer} {states : List (List ℕ)}
      → StepPromise (take step.lent work) step.budget answer after
      → Ran (after ++ drop step.lent work) steps given states
      → Ran work (step ∷ steps) (answer_of answer ∷ given) ((after ++ drop step.lent work) ∷ states)

-- the work words after n of the steps
abbrev pub words_after : List ℕ → List (List ℕ) → ℕ → List ℕ
words_after work states n = get_or (work ∷ states) n []

-- what all lent buffers held before: codes and positions of the text's sketch, of the read's, of the struck text and of the struck read,
-- which is the pattern; and the work words
pub record Lent : Type 0 where
  pub text_codes : List ℕ
  pub text_positions : List ℕ
  pub read_codes : List ℕ
  pub read_positions : List ℕ
  pub struck_codes : List ℕ
  pub struck_positions : List ℕ
  pub pattern_codes : List ℕ
  pub pattern_positions : List ℕ
  pub work : List ℕ

-- the calls in their order, each on what those before it wrote: n entries of the text and m of the read, s and r of them when struck
module _ (settings : Settings) (text read : List ℕ) (lent : Lent) (n m s r : ℕ) where
  unfoldable pub text_codes : List ℕ
  text_codes = take n (sketch_codes settings.k settings.w text lent.text_codes lent.text_positions)

  unfoldable pub text_positions : List ℕ
  text_positions = take n (sketch_positions settings.k settings.w text lent.text_codes lent.text_positions)

  unfoldable pub read_codes : List ℕ
  read_codes = take m (sketch_codes settings.k settings.w read lent.read_codes lent.read_positions)

  unfoldable pub read_positions : List ℕ
  read_positions = take m (sketch_positions settings.k settings.w read lent.read_codes lent.read_positions)

  unfoldable pub struck_codes : List ℕ
  struck_codes = take s (strike_codes text_codes text_codes text_positions settings.c lent.struck_codes lent.struck_positions)

  -- the pattern: the text's codes, not struck, decide what leaves the read
  unfoldable pub pattern_codes : List ℕ
  pattern_codes = take r (strike_codes text_codes read_codes read_positions settings.c lent.pattern_codes lent.pattern_positions)

  -- what start is given
  unfoldable pub start_task : Task
  start_task = task_with struck_codes pattern_codes settings.scoring

  -- sketch of text and read, strike of both, and start accept, with h hits; a linear threshold is any signed 32-bit number
  pub record AllAccept (h : ℕ) : Type 0 where
    pub sketch_text : sketch_reply settings.k settings.w text (length lent.text_codes) (length lent.text_positions) ≡ accepted (n ∷ [])
    pub sketch_read : sketch_reply settings.k settings.w read (length lent.read_codes) (length lent.read_positions) ≡ accepted (m ∷ [])
    pub strike_text : strike_reply text_codes text_codes text_positions settings.c (length lent.struck_codes) (length lent.struck_positions)
        ≡ accepted (s ∷ [])
    pub strike_read : strike_reply text_codes read_codes read_positions settings.c (length lent.pattern_codes) (length lent.pattern_positions)
        ≡ accepted (r ∷ [])
    pub start : start_reply start_task (length lent.work) ≡ accepted (h ∷ [])
    pub threshold_fits : ThresholdFits settings.scoring

-- words 0 to 4 of a session after q cells: h, u and v or f and g, the cells passed since start, and the kind of score
pub record FirstWords (task : Task) (q : ℕ) (words : List ℕ) : Type 0 where
  pub word0 : get_or words hits_at 0 ≡ hit_count task
  pub word1 : get_or words u_at 0 ≡ first_number task.scoring
  pub word2 : get_or words v_at 0 ≡ second_number task.scoring
  pub word3 : get_or words passed_at 0 ≡ q
  pub word4 : get_or words kind_at 0 ≡ kind_number task.scoring

-- demand 3 of a task: what is demanded of the answers, and how the work words stand, from the words of the fresh session on
pub record Demand3 (task : Task) (fresh : List ℕ) (steps : List Step) (answers : List Answer) (states : List (List ℕ)) : Type 0 where
  pub demanded : Demanded task steps answers
  -- before the first step and after each, word 3 holds q, and words 0 to 2 and 4 what start wrote
  pub words : (n : ℕ) → n ≤ length steps → FirstWords task (passed_before answers n) (words_after fresh states n)
  -- a refused step changes nothing
  pub unchanged : (n : ℕ) → n < length steps → (step_at steps n).lent < work_words → words_after fresh states (suc n) ≡ words_after fresh states n
  -- words beyond the first 16,384 are never changed
  pub beyond : (n : ℕ) → n ≤ length steps → drop work_words (words_after fresh states n) ≡ drop work_words fresh
