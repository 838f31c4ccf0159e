-- Demand 3, whole: for every list of steps from a fresh session, as step promises each; over any codes that start accepts, and over the
-- letters of text and read.
use Rattle.std.specs.Prelude.{Result}
use Prim.Native.Nat.{ℕ, zero, suc, ◌+◌, ◌-◌, ◌≤◌, ◌<◌}
use native.Mathlib.Nat.{not-suc-le-zero, le_of_suc-le-suc}
use native.Mathlib.Omega.{arith}
use mathlib.Core.Path.{◌≡◌, refl, sym, ap, ap₂, ◌∙◌, subst}
use mathlib.Core.Bool.{Bool, true, false, cond, not}
use mathlib.Core.List.{List, [], ◌∷◌, ◌++◌, append-nil}
use lib.Dec.{ltb}
use lib.ListN.{length, take, drop, length-take, length-drop, take-append-drop, drop_of_length-le}
use lib.Seq.{ext_get_or, get_or-drop, length-take-le, take_all}
use borrow.Author.Tests.{lt-ltb, le-ltb, ltb-true, ltb-false}
use Rattle.base.specs.Replies.{accepted}
use Rattle.base.specs.declared.refusal.Refusal.{Refusal}
use Rattle.kmers.specs.Kmers.{Entry, codes}
use Rattle.minimizers.specs.Sketch.{sketch}
use Rattle.sketch.specs.Replies.{sketch_codes, sketch_positions}
use Rattle.sketch.proofs.Accepted.{Wrote, sketch_wrote}
use Rattle.strike.specs.Strike.{strike, struck}
use Rattle.strike.proofs.Accepted.{strike_wrote}
use Rattle.base.specs.Limits.{work_words}
use Rattle.mappings.specs.Score.{Task, task_with}
use Rattle.mappings.specs.Cells.{hit_count, cell_count}
use Rattle.mappings.specs.Rule.{Answer, refused, Step, reported, is_accepted, rule_answer}
use Rattle.mappings.specs.Steps.{step_answer, answers}
use Rattle.mappings.specs.Demand.{passed_before, Demanded}
use Rattle.mappings.proofs.Demand.{demand}
use Rattle.mappings.proofs.Rule.{outcome, outcome_within, passing}
use Rattle.requests.specs.declared.Settings.{Settings}
use Rattle.requests.specs.Requests.{text_of, pattern_of, task_of}
use Rattle.session_start.specs.Start.{start_reply, start_words}
use Rattle.session_start.specs.WorkWords.{session_words}
use Rattle.session_start.proofs.WorkWords.{words_hold, beyond_free, session_number, take_session, drop_session}
use Rattle.mapper.specs.declared.answer.Stepped.{Stepped}
use Rattle.mapper.specs.Answers.{answer_of}
use Rattle.mapper.specs.Step.{too_few_words}
use Rattle.mapper.specs.Promise.{Accepts, StepPromise}
use Rattle.mapper.specs.Sessions.{Ran, none, then, words_after, Lent, AllAccept, FirstWords, Demand3}
use Rattle.mapper.specs.Sessions.{text_codes, text_positions, read_codes, read_positions, struck_codes, pattern_codes, start_task}
use Rattle.mapper.proofs.Accepted.{Admitted, admitted, accepts_in}

-- ---- one step of a list

module _ (task : Task) (before : List ℕ) (a : Accepts task before) where
  limits : Admitted task (length before) (hit_count task ∷ [])
  limits = admitted task (length before) (hit_count task ∷ []) a.accepts

  number : (q : ℕ) → length (session_words task before q) ≡ length before
  number q = session_number task before q limits.few_hits limits.many_words

  -- what a step of a list answers and leaves, where q cells have been passed
  abbrev StepsOn : ℕ → Step → Answer → List ℕ → Type 0
  StepsOn q step answer words = (answer ≡ step_answer task q step) × (words ≡ session_words task before (q + reported (step_answer task q step)))

  module _ (q : ℕ) (step : Step) (answer : Result Stepped Refusal) (words : List ℕ)
      (promise : StepPromise (take step.lent (session_words task before q)) step.budget answer words) where
    refused_step : step.lent < work_words → StepsOn q step (answer_of answer) (words ++ drop step.lent (session_words task before q))
    unfolding step_answer is_accepted too_few_words
    refused_step l =
        let few : length (take step.lent (session_words task before q)) < work_words =
        rw (length-take step.lent (session_words task before q)) (omega arith) in
        let p = promise.few (lt-ltb (length (take step.lent (session_words task before q))) work_words few) in
        let z : q ≡ q + 0 = omega arith in
        rw (lt-ltb step.lent work_words l) (
          p.0,
          ap (λ (xs : List ℕ). xs ++ drop step.lent (session_words task before q)) p.1
              ∙ take-append-drop step.lent (session_words task before q) ∙ ap (session_words task before) z,
        )

    accepted_step : work_words ≤ step.lent → q ≤ cell_count (hit_count task)
        → StepsOn q step (answer_of answer) (words ++ drop step.lent (session_words task before q))
    unfolding step_answer is_accepted
    accepted_step l k = rw (le-ltb step.lent work_words l) (go (ltb (length before) step.lent) refl)
      where
        q' : ℕ
        q' = q + reported (rule_answer task q step.budget)

        go : (b : Bool) → ltb (length before) step.lent ≡ b
            → (answer_of answer ≡ rule_answer task q step.budget)
            × (words ++ drop step.lent (session_words task before q) ≡ session_words task before q')
        go true e =
            let whole : length (session_words task before q) ≤ step.lent = rw (number q) (omega (arith, ltb-true (length before) step.lent e)) in
            let p = promise.session task before q a k (take_all step.lent (session_words task before q) whole) in (
              p.0,
              ap₂ (λ (xs ys : List ℕ). xs ++ ys) p.1 (drop_of_length-le (session_words task before q) whole)
                  ∙ append-nil (session_words task before q'),
            )
        go false e =
            let m : step.lent ≤ length before = ltb-false (length before) step.lent e in
            let p =
            promise.session task (take step.lent before) q (accepts_in task before a (take step.lent before) (rw (length-take-le step.lent before m) l)) k
            (take_session task limits.few_hits before step.lent l m q) in (
              p.0,
              ap₂ (λ (xs ys : List ℕ). xs ++ ys) (p.1 ∙ sym (take_session task limits.few_hits before step.lent l m q'))
                  (drop_session task limits.few_hits before step.lent l m q q')
                  ∙ take-append-drop step.lent (session_words task before q'),
            )

    one_step : q ≤ cell_count (hit_count task) → StepsOn q step (answer_of answer) (words ++ drop step.lent (session_words task before q))
    one_step k = go (ltb step.lent work_words) refl
      where
        go : (b : Bool) → ltb step.lent work_words ≡ b → StepsOn q step (answer_of answer) (words ++ drop step.lent (session_words task before q))
        go true e = refused_step (ltb-true step.lent work_words e)
        go false e = accepted_step (ltb-false step.lent work_words e) k

  -- q stays among the cells
  within_step : (q : ℕ) (step : Step) → q ≤ cell_count (hit_count task) → q + reported (step_answer task q step) ≤ cell_count (hit_count task)
  unfolding step_answer is_accepted
  within_step q step k = go (not (ltb step.lent work_words))
    where
      go : (b : Bool) → q + reported (cond b (rule_answer task q step.budget) (refused 10)) ≤ cell_count (hit_count task)
      go true = outcome_within task (outcome task (passing task q step.budget k))
      go false = omega arith

  -- a list of steps, from the words after q cells on: the rule's answers, and after each step the words of the session
  pub ran_on : (q : ℕ) {work : List ℕ} {states : List (List ℕ)} {steps : List Step} {heard : List Answer} → q ≤ cell_count (hit_count task)
      → work ≡ session_words task before q → Ran work steps heard states
      → (heard ≡ answers task q steps)
      × ((n : ℕ) → n ≤ length steps → words_after work states n ≡ session_words task before (q + passed_before heard n))
  unfolding answers
  ran_on q {work} k e none = (refl, at)
    where
      at : (n : ℕ) → n ≤ 0 → words_after work [] n ≡ session_words task before (q + passed_before [] n)
      at zero l = e ∙ (let z : q ≡ q + 0 = omega arith in ap (session_words task before) z)
      at (suc n) l = absurd (not-suc-le-zero l)
  ran_on q {work} k e (then {after = after} {step = step} {steps = steps} {answer = answer} {given = heard} {states = states} promise rest) =
      let p : StepPromise (take step.lent (session_words task before q)) step.budget answer after =
      subst (λ (w : List ℕ). StepPromise (take step.lent w) step.budget answer after) e promise
      in
      let one = one_step q step answer after p k in
      let here : after ++ drop step.lent work ≡ session_words task before (q + reported (step_answer task q step)) =
      ap (λ (w : List ℕ). after ++ drop step.lent w) e ∙ one.1
      in
      let others = ran_on (q + reported (step_answer task q step)) (within_step q step k) here rest in
      (ap₂ (λ (x : Answer) (xs : List Answer). x ∷ xs) one.0 others.0, at one.0 others.1)
    where
      at : answer_of answer ≡ step_answer task q step
          → ((n : ℕ) → n ≤ length steps → words_after (after ++ drop step.lent work) states n
          ≡ session_words task before (q + reported (step_answer task q step) + passed_before heard n))
          → (n : ℕ) → n ≤ suc (length steps)
          → words_after work ((after ++ drop step.lent work) ∷ states) n ≡ session_words task before (q + passed_before (answer_of answer ∷ heard) n)
      at f further zero l = e ∙ (let z : q ≡ q + 0 = omega arith in ap (session_words task before) z)
      at f further (suc n) l =
          let count : q + reported (step_answer task q step) + passed_before heard n ≡ q + (reported (answer_of answer) + passed_before heard n) =
          rw f (omega arith) in
          further n (le_of_suc-le-suc l) ∙ ap (session_words task before) count

  -- beyond the first 16,384 a session's words are those before start
  pub beyond_session : (q : ℕ) → drop work_words (session_words task before q) ≡ drop work_words before
  beyond_session q =
      let holds = (words_hold task before q limits.few_hits limits.many_words).held in
      ext_get_or 0 (drop work_words (session_words task before q)) (drop work_words before)
      (length-drop work_words (session_words task before q) ∙ ap (λ (n : ℕ). n - work_words) holds.number ∙ sym (length-drop work_words before))
      (λ i k.
      (get_or-drop work_words (session_words task before q) i 0
      ∙ holds.free_word (work_words + i)
      (beyond_free task limits.few_hits before work_words (omega arith) limits.many_words (work_words + i) (omega arith))
      ∙ sym (get_or-drop work_words before i 0)))

  -- ---- any codes that start accepts

  pub fresh : start_words task before ≡ session_words task before 0
  unfolding start_words
  fresh = rw a.accepts

  first_words : (q : ℕ) → FirstWords task q (session_words task before q)
  first_words q =
      let holds = words_hold task before q limits.few_hits limits.many_words in
      record {
        word0 = holds.held.h_word;
        word1 = holds.held.first_word;
        word2 = holds.held.second_word;
        word3 = holds.passed_word;
        word4 = holds.held.kind_word;
      }

  pub demand3_codes : {states : List (List ℕ)} {steps : List Step} {heard : List Answer} → Ran (start_words task before) steps heard states
      → Demand3 task (start_words task before) steps heard states
  demand3_codes {states} {steps} {heard} run =
      let r = ran_on 0 (omega arith) fresh run in
      let demanded : Demanded task steps heard = rw r.0 (demand task steps) in
      let at : (n : ℕ) → n ≤ length steps → words_after (start_words task before) states n ≡ session_words task before (passed_before heard n) =
      λ n l. (let z : 0 + passed_before heard n ≡ passed_before heard n = omega arith in r.1 n l ∙ ap (session_words task before) z)
      in
      record {
        demanded = demanded;
        words = λ n l. subst (FirstWords task (passed_before heard n)) (sym (at n l)) (first_words (passed_before heard n));
        unchanged = λ n l few. at (suc n) l ∙ ap (session_words task before) (demanded.unmoved n l few) ∙ sym (at n (omega arith));
        beyond = λ n l. ap (drop work_words) (at n l) ∙ beyond_session (passed_before heard n) ∙ sym (ap (drop work_words) fresh ∙ beyond_session 0);
      }

-- ---- from letters: by the laws of sketch and strike, what they write is what start is given

module _ (settings : Settings) (text read : List ℕ) (lent : Lent) (n m s r : ℕ) (h : ℕ) (all : AllAccept settings text read lent n m s r h) where
  abbrev k : ℕ
  k = settings.k

  abbrev w : ℕ
  w = settings.w

  of_text : Wrote (sketch k w text) n (sketch_codes k w text lent.text_codes lent.text_positions)
      (sketch_positions k w text lent.text_codes lent.text_positions)
  of_text = sketch_wrote k w text lent.text_codes lent.text_positions n all.sketch_text

  of_read : Wrote (sketch k w read) m (sketch_codes k w read lent.read_codes lent.read_positions)
      (sketch_positions k w read lent.read_codes lent.read_positions)
  of_read = sketch_wrote k w read lent.read_codes lent.read_positions m all.sketch_read

  struck_codes_are : struck_codes settings text read lent n m s r ≡ codes (text_of settings text)
  unfolding struck_codes text_codes text_positions text_of struck
  struck_codes_are =
      (strike_wrote (text_codes settings text read lent n m s r) (text_codes settings text read lent n m s r) (text_positions settings text read lent n m s r)
      settings.c lent.struck_codes lent.struck_positions s all.strike_text).codes_are
      ∙ ap₂ (λ (deciding : List ℕ) (es : List Entry). codes (strike deciding settings.c es)) of_text.codes_are of_text.paired

  pattern_codes_are : pattern_codes settings text read lent n m s r ≡ codes (pattern_of settings text read)
  unfolding pattern_codes text_codes read_codes read_positions pattern_of
  pattern_codes_are =
      (strike_wrote (text_codes settings text read lent n m s r) (read_codes settings text read lent n m s r) (read_positions settings text read lent n m s r)
      settings.c lent.pattern_codes lent.pattern_positions r all.strike_read).codes_are
      ∙ ap₂ (λ (deciding : List ℕ) (es : List Entry). codes (strike deciding settings.c es)) of_text.codes_are of_read.paired

  start_task_is : start_task settings text read lent n m s r ≡ task_of settings text read
  unfolding start_task task_of
  start_task_is = λ i. task_with (struck_codes_are i) (pattern_codes_are i) settings.scoring

  accepts_task : Accepts (task_of settings text read) lent.work
  unfolding task_of
  accepts_task =
      let e : start_reply (task_of settings text read) (length lent.work) ≡ accepted (h ∷ []) =
      subst (λ (task : Task). start_reply task (length lent.work) ≡ accepted (h ∷ [])) start_task_is all.start
      in
      record {
        accepts = e ∙ ap accepted (admitted (task_of settings text read) (length lent.work) (h ∷ []) e).answered;
        threshold_fits = all.threshold_fits;
      }

  -- demand 3 of the letters: over the two sketches as 01 defines them, both struck by the counts of the text's
  pub demand3 : {states : List (List ℕ)} {steps : List Step} {heard : List Answer}
      → Ran (start_words (start_task settings text read lent n m s r) lent.work) steps heard states
      → Demand3 (task_of settings text read) (start_words (start_task settings text read lent n m s r) lent.work) steps heard states
  demand3 {states} {steps} {heard} =
      subst (λ (task : Task). Ran (start_words task lent.work) steps heard states
      → Demand3 (task_of settings text read) (start_words task lent.work) steps heard states)
      (sym start_task_is) (demand3_codes (task_of settings text read) lent.work accepts_task)
