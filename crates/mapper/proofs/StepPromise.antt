-- Step keeps its promise, way by way: refused for too few words or for bad ones, words that no session has, and the walk.
use Rattle.std.specs.Prelude.{Result, Ok, Err}
use Prim.Native.Nat.{ℕ, zero, suc, ◌+◌, ◌-◌, ◌≤◌, ◌<◌}
use native.Mathlib.Nat.{le_refl}
use native.Mathlib.Omega.{arith}
use mathlib.Core.Path.{◌≡◌, refl, sym, ap, ap₂, ◌∙◌, subst}
use mathlib.Core.Logic.{◌⊎◌, inl, inr}
use mathlib.Core.Bool.{Bool, true, false, cond}
use mathlib.Core.List.{List, [], ◌∷◌, ◌++◌}
use lib.Dec.{ltb}
use lib.ListN.{length, get_or, take, drop, length-append, length-drop, take-append-drop}
use lib.Seq.{get_or-take, length-take-le, drop_at}
use borrow.Author.Tests.{lt-ltb, le-ltb, ltb-true}
use Rattle.base.specs.Limits.{hit_limit, work_words}
use Rattle.base.specs.declared.refusal.Refusal.{Refusal}
use Rattle.base.proofs.Lists.{clash, eq_or_ne}
use Rattle.mappings.specs.Score.{Task, ThresholdFits}
use Rattle.mappings.specs.Cells.{hit_count, cells, cell_count}
use Rattle.mappings.specs.Rule.{Answer, refused, reported, rule_answer}
use Rattle.mappings.specs.Steps.{more_cells}
use Rattle.mappings.proofs.Cells.{cell_at, stands}
use Rattle.mappings.proofs.HitCodes.{cell_shared}
use Rattle.session_words.specs.FirstWords.{hits_at, u_at, v_at, passed_at, kind_at}
use Rattle.session_words.specs.Layout.{columns_at, row_at, m_at, highest_at}
use Rattle.session_records.proofs.Highest.{before_none}
use Rattle.session_start.specs.WorkWords.{columns_left, next_row, next_shared, order_of, best_after, highest_after, session_words}
use Rattle.session_start.proofs.WorkWords.{HoldsTables, Holds, task_order, words_hold, take_session, drop_session}
use Rattle.mapper.specs.declared.answer.Stepped.{Stepped}
use Rattle.mapper.specs.declared.answer.Stepped.TheVariants.{Found, Finished, Spent}
use Rattle.mapper.specs.Answers.{stepped_answer, answer_of}
use Rattle.mapper.specs.Step.{too_few_words, bad_words}
use Rattle.session_rule.proofs.Knowing.{least}
use Rattle.session_rule.proofs.Chunk.{more_none}
use Rattle.mapper.specs.Walking.{place_of, terms_in, Walk, walk_on, one_walk}
use Rattle.mapper.specs.Promise.{Accepts, StepPromise}
use Rattle.mapper.proofs.Accepted.{Admitted, admitted, accepts_in}
use Rattle.mapper.proofs.Places.{at_cell, at_end}
use Rattle.mapper.proofs.Decided.{terms_of, scoring_read}
use Rattle.mapper.proofs.WalkRule.{PlaceAt, Settled, Ruled, walk_rule, one_rule}
use Rattle.mapper.proofs.Within.{Kept, kept_walk, kept_one}

-- ---- the words of a session

-- a session with its words after q cells, and what follows from start's acceptance
pub record InSession (task : Task) (before : List ℕ) (q : ℕ) (work : List ℕ) : Type 0 where
  pub limits : Admitted task (length before) (hit_count task ∷ [])
  pub held : Holds task before q work
  pub number : work_words ≤ length work

pub in_session : (task : Task) (before : List ℕ) (q : ℕ) (work : List ℕ) → Accepts task before → work ≡ session_words task before q
    → InSession task before q work
in_session task before q work a e =
    let l = admitted task (length before) (hit_count task ∷ []) a.accepts in
    let h = words_hold task before q l.few_hits l.many_words in
    record {
      limits = l;
      held = subst (Holds task before q) (sym e) h;
      number = subst (λ (w : List ℕ). work_words ≤ length w) (sym e) (rw h.held.number l.many_words);
    }

-- the place lies within the columns
columns_within : (h q : ℕ) → columns_left h q ≤ h
columns_within zero q = le_refl 0
columns_within (suc j) q = go (ltb q (suc j)) (columns_within j (q - suc j))
  where
    go : (b : Bool) → columns_left j (q - suc j) ≤ j → cond b (suc j) (columns_left j (q - suc j)) ≤ suc j
    go true l = le_refl (suc j)
    go false l = omega arith

row_within : (h q : ℕ) → next_row h q ≤ columns_left h q
row_within zero q = le_refl 0
row_within (suc j) q = go (ltb q (suc j)) refl (row_within j (q - suc j))
  where
    go : (b : Bool) → ltb q (suc j) ≡ b → next_row j (q - suc j) ≤ columns_left j (q - suc j)
        → cond b q (next_row j (q - suc j)) ≤ cond b (suc j) (columns_left j (q - suc j))
    go true e l = let k : q < suc j = ltb-true q (suc j) e in omega arith
    go false e l = l

-- the place after q cells
placed : (task : Task) (q : ℕ) → q ≤ cell_count (hit_count task)
    → PlaceAt task q (columns_left (hit_count task) q) (next_row (hit_count task) q)
    (next_shared task (columns_left (hit_count task) q) (next_row (hit_count task) q)) (highest_after task q)
unfolding highest_after
placed task q l = go (eq_or_ne q (cell_count (hit_count task)))
  where
    go : (q ≡ cell_count (hit_count task)) ⊎ (q ≡ cell_count (hit_count task) → ⊥)
        → PlaceAt task q (columns_left (hit_count task) q) (next_row (hit_count task) q)
        (next_shared task (columns_left (hit_count task) q) (next_row (hit_count task) q)) (highest_after task q)
    go (inl e) =
        let at = at_end (hit_count task) in
        let c : columns_left (hit_count task) q ≡ 0 = ap (columns_left (hit_count task)) e ∙ at.columns_are in
        let r : next_row (hit_count task) q ≡ 0 = ap (next_row (hit_count task)) e ∙ at.row_is in
        rw (c, r) (e, refl, refl, before_none (order_of task) (task_order task) (least task) (best_after task q))
    go (inr n) =
        let cell = get_or (cells (hit_count task)) q (cell_at 0 0) in
        let s = stands (hit_count task) q (cell_at 0 0) (omega arith) in
        let at = at_cell (hit_count task) cell.row cell.column s.ordered s.within in
        let c : columns_left (hit_count task) q ≡ suc cell.column = ap (columns_left (hit_count task)) (sym s.number) ∙ at.columns_are in
        let r : next_row (hit_count task) q ≡ cell.row = ap (next_row (hit_count task)) (sym s.number) ∙ at.row_is in
        rw (c, r) (s.within, s.ordered, s.number, cell_shared task cell.row cell.column s.ordered s.within, refl)

-- a session's words are not bad
good_session : (task : Task) (before : List ℕ) (q : ℕ) (work : List ℕ) → InSession task before q work → q ≤ cell_count (hit_count task)
    → bad_words work ≡ false
unfolding bad_words
good_session task before q work s l =
    let b = s.held.held in
    let m = s.limits in
    rw (
      b.h_word,
      b.first_word,
      b.second_word,
      b.kind_word,
      s.held.passed_word,
      le-ltb hit_limit (hit_count task) m.few_hits,
      m.good_scoring,
    )
    (le-ltb (cell_count (hit_count task)) q l)

-- the terms of a session, read from its words
terms_read : (task : Task) (before : List ℕ) (q : ℕ) (work : List ℕ) → HoldsTables task before q (columns_left (hit_count task) q) work
    → ThresholdFits task.scoring → terms_in work ≡ terms_of task
unfolding terms_in
terms_read task before q work held fits =
    rw (held.first_word, held.second_word, held.kind_word, held.size_word, held.threshold_word, scoring_read task.scoring fits)

-- what keeps the promise, keeps it under other names
pub kept_as : (work : List ℕ) (budget : ℕ) (walk : Walk) (answer : Stepped) (after : List ℕ) → answer ≡ walk.answer → after ≡ walk.words
    → StepPromise work budget (Ok walk.answer) walk.words → StepPromise work budget (Ok answer) after
kept_as work budget walk answer after a b promise = rw (a, b) promise

-- ---- refusals

-- what is stepped is no refusal
no_refusal : (stepped : Stepped) (n : ℕ) → stepped_answer stepped ≡ refused n → ⊥
no_refusal (Found a b score m cells) n e = let z : ◌≡◌ {A = ℕ} 0 1 = cc in omega arith
no_refusal (Finished cells) n e = let z : ◌≡◌ {A = ℕ} 0 1 = cc in omega arith
no_refusal (Spent cells) n e = let z : ◌≡◌ {A = ℕ} 0 1 = cc in omega arith

same_number : (m n : ℕ) → refused m ≡ refused n → n ≡ m
same_number m n e = cc

-- ---- the ways

module _ (work : List ℕ) (budget : ℕ) where
  pub few_promise : length work < work_words → StepPromise work budget (Err Refusal.TooFewWords) work
  unfolding too_few_words
  few_promise l = record {
    few = λ e. (refl, refl);
    bad = λ e f. clash (lt-ltb (length work) work_words l) e;
    session = λ task before q a k e. absurd (let s = in_session task before q work a e in omega (arith, s.number));
    refusals = λ n e. inl (same_number 10 n e);
    number = refl;
    beyond = refl;
  }

  module _ (l : work_words ≤ length work) where
    pub bad_promise : bad_words work ≡ true → StepPromise work budget (Err Refusal.BadWords) work
    unfolding too_few_words
    bad_promise b = record {
      few = λ e. clash e (le-ltb (length work) work_words l);
      bad = λ e f. (refl, refl);
      session = λ task before q a k e. clash b (good_session task before q work (in_session task before q work a e) k);
      refusals = λ n e. inr (same_number 15 n e);
      number = refl;
      beyond = refl;
    }

    module _ (good : bad_words work ≡ false) where
      -- a place that lies in no column is no session's
      pub lost_promise : (get_or work hits_at 0 < get_or work columns_at 0) ⊎ (get_or work columns_at 0 < get_or work row_at 0)
          → StepPromise work budget (Ok (Spent 0)) work
      unfolding too_few_words
      lost_promise out = record {
        few = λ e. clash e (le-ltb (length work) work_words l);
        bad = λ e f. clash f good;
        session = λ task before q a k e. absurd (lost task before q (in_session task before q work a e) out);
        refusals = λ n e. absurd (no_refusal (Spent 0) n e);
        number = refl;
        beyond = refl;
      }
        where
          lost : (task : Task) (before : List ℕ) (q : ℕ) → InSession task before q work
              → (get_or work hits_at 0 < get_or work columns_at 0) ⊎ (get_or work columns_at 0 < get_or work row_at 0) → ⊥
          lost task before q s (inl o) =
              omega (arith, s.held.held.h_word, s.held.columns_word, columns_within (hit_count task) q)
          lost task before q s (inr o) =
              omega (arith, s.held.columns_word, s.held.row_word, row_within (hit_count task) q)

      -- what is passed from the place in the words keeps the promise, where in the words of a session it goes by the rule
      by_rule : (walk : Walk) → Kept work walk.words
          → ((task : Task) (before : List ℕ) (q : ℕ) (a : Accepts task before) (s : InSession task before q work) → q ≤ cell_count (hit_count task)
          → Settled task s.limits.limited a.threshold_fits s.limits.few_hits before s.limits.many_words q
          (place_of (get_or work columns_at 0) (get_or work row_at 0) (get_or work m_at 0) (get_or work highest_at 0)) work
          → terms_in work ≡ terms_of task → get_or work passed_at 0 ≡ q
          → Ruled task s.limits.limited a.threshold_fits s.limits.few_hits before s.limits.many_words q budget q budget walk)
          → StepPromise work budget (Ok walk.answer) walk.words
      unfolding too_few_words
      by_rule walk kept rule = record {
        few = λ e. clash e (le-ltb (length work) work_words l);
        bad = λ e f. clash f good;
        session = λ task before q a k e. ruled task before q a k (in_session task before q work a e);
        refusals = λ n e. absurd (no_refusal walk.answer n e);
        number = kept.number;
        beyond = kept.beyond;
      }
        where
          ruled : (task : Task) (before : List ℕ) (q : ℕ) → Accepts task before → q ≤ cell_count (hit_count task) → InSession task before q work
              → (stepped_answer walk.answer ≡ rule_answer task q budget)
              × (walk.words ≡ session_words task before (q + reported (rule_answer task q budget)))
          ruled task before q a k s =
              let held = s.held.held in
              let none : budget - budget ≡ 0 = omega arith in
              let columns = s.held.columns_word in
              let r = rule task before q a s k
              (record {
                at = rw (columns, s.held.row_word, s.held.shared_word, s.held.highest_word) (placed task q k);
                tables = rw columns held;
              })
              (terms_read task before q work held a.threshold_fits)
              s.held.passed_word in
              let answer : stepped_answer walk.answer ≡ rule_answer task q budget =
              r.answer_is ∙ ap (λ (n : ℕ). more_cells n (rule_answer task q budget)) none ∙ more_none (rule_answer task q budget) in
              (answer, r.words_are ∙ ap (λ (x : Answer). session_words task before (q + reported x)) answer)

      -- the walk from the place in the words
      abbrev pub walked : Walk
      walked = walk_on (terms_in work) budget (get_or work columns_at 0) (get_or work row_at 0) (get_or work m_at 0) (get_or work highest_at 0) budget work

      pub walk_promise : StepPromise work budget (Ok walked.answer) walked.words
      walk_promise =
          by_rule walked
          (kept_walk (terms_in work) budget (get_or work columns_at 0) (get_or work row_at 0) (get_or work m_at 0) (get_or work highest_at 0) budget work l)
          (λ task before q a s k place terms passed.
          rw terms
          (walk_rule task s.limits.limited a.threshold_fits s.limits.few_hits before s.limits.many_words q budget (get_or work columns_at 0) q
          (get_or work row_at 0) (get_or work m_at 0) (get_or work highest_at 0) budget work place passed (omega arith) (le_refl budget)))

      -- the walk of one cell, in a column that has a further row
      abbrev pub walked_one : Walk
      walked_one = one_walk (terms_in work) (get_or work columns_at 0) (get_or work row_at 0) (get_or work m_at 0) (get_or work highest_at 0) work

      pub one_promise : budget ≡ 1 → get_or work row_at 0 + 1 < get_or work columns_at 0 → StepPromise work budget (Ok walked_one.answer) walked_one.words
      one_promise e inside =
          by_rule walked_one
          (kept_one (terms_in work) (get_or work columns_at 0) (get_or work row_at 0) (get_or work m_at 0) (get_or work highest_at 0) work l)
          (λ task before q a s k place terms passed.
          rw terms
          (one_rule task s.limits.limited a.threshold_fits s.limits.few_hits before s.limits.many_words q budget (get_or work columns_at 0) q
          (get_or work row_at 0) (get_or work m_at 0) (get_or work highest_at 0) work place passed e inside refl))

-- ---- a step on the first words: those behind them stay as they were

module _ (work : List ℕ) (budget : ℕ) (l : work_words ≤ length work) where
  first_number : length (take work_words work) ≡ work_words
  first_number = length-take-le work_words work l

  -- words 0 to 4 are among the first
  pub same_bad : bad_words (take work_words work) ≡ bad_words work
  unfolding bad_words
  same_bad =
      rw (
        get_or-take work_words work hits_at 0 (omega arith),
        get_or-take work_words work kind_at 0 (omega arith),
        get_or-take work_words work u_at 0 (omega arith),
        get_or-take work_words work v_at 0 (omega arith),
        get_or-take work_words work passed_at 0 (omega arith),
      )

  on_first : {answer : Result Stepped Refusal} {after : List ℕ} → StepPromise (take work_words work) budget answer after
      → StepPromise work budget answer (after ++ drop work_words work)
  unfolding too_few_words
  on_first {answer} {after} promise = record {
    few = λ e. clash e (le-ltb (length work) work_words l);
    bad = λ e b.
        (let p = promise.bad (le-ltb (length (take work_words work)) work_words (omega (arith, first_number))) (same_bad ∙ b) in
        (p.0, ap (λ (words : List ℕ). words ++ drop work_words work) p.1 ∙ take-append-drop work_words work));
    session = λ task before q a k e. session_on task before q a k e (admitted task (length before) (hit_count task ∷ []) a.accepts);
    refusals = promise.refusals;
    number = simp (length-append, length-drop) (omega (arith, promise.number, first_number));
    beyond = drop_at after (drop work_words work) work_words (promise.number ∙ first_number);
  }
    where
      session_on : (task : Task) (before : List ℕ) (q : ℕ) (a : Accepts task before) → q ≤ cell_count (hit_count task)
          → work ≡ session_words task before q → Admitted task (length before) (hit_count task ∷ [])
          → (answer_of answer ≡ rule_answer task q budget)
          × (after ++ drop work_words work ≡ session_words task before (q + reported (rule_answer task q budget)))
      session_on task before q a k e d =
          let q' = q + reported (rule_answer task q budget) in
          let enough : work_words ≤ work_words = omega arith in
          let begun : work_words ≤ length (take work_words before) = omega (arith, length-take-le work_words before d.many_words) in
          let p =
          promise.session task (take work_words before) q (accepts_in task before a (take work_words before) begun) k
          (ap (take work_words) e ∙ take_session task d.few_hits before work_words enough d.many_words q) in (
            p.0,
            ap₂ (λ (xs ys : List ℕ). xs ++ ys) (p.1 ∙ sym (take_session task d.few_hits before work_words enough d.many_words q'))
                (ap (drop work_words) e ∙ drop_session task d.few_hits before work_words enough d.many_words q q')
                ∙ take-append-drop work_words (session_words task before q'),
          )

  pub with_rest : {answer : Result Stepped Refusal} {after : List ℕ} (words : List ℕ) → words ≡ take work_words work
      → StepPromise words budget answer after → StepPromise work budget answer (after ++ drop work_words work)
  with_rest {answer} {after} words e promise = on_first (subst (λ (first : List ℕ). StepPromise first budget answer after) e promise)

  pub first_long : (words : List ℕ) → words ≡ take work_words work → work_words ≤ length words
  first_long words e = rw e (omega (arith, first_number))
