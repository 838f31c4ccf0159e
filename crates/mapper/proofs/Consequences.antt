-- Three consequences that users rely on. No list of steps changes words beyond the first 16,384, whatever the words. A session lives
-- wholly in those: wherever they are copied to, the copy answers as the original does from the moment of the copy. And the mappings
-- handed out depend on q alone, whatever the budgets.
use Prim.Native.Nat.{ℕ, zero, suc, ◌+◌, ◌≤◌}
use native.Mathlib.Nat.{le_refl, le_of_eq, le_of_suc-le-suc, not-suc-le-zero}
use native.Mathlib.Omega.{arith}
use mathlib.Core.Path.{◌≡◌, refl, sym, ap, ap₂, ◌∙◌}
use mathlib.Core.List.{List, [], ◌∷◌, ◌++◌}
use lib.ListN.{length, get_or, take, drop, length-append, take-append-drop}
use lib.Seq.{length-take-le, take_all, take_at, drop_at}
use Rattle.base.specs.Limits.{work_words}
use Rattle.mappings.specs.Score.{Task}
use Rattle.mappings.specs.Cells.{hit_count, cell_count}
use Rattle.mappings.specs.Rule.{Answer, Step, passed, handed_out}
use Rattle.mappings.specs.Demand.{passed_before}
use Rattle.mappings.proofs.Demanded.{demanded_same}
use Rattle.session_words.specs.FirstWords.{passed_at}
use Rattle.session_start.specs.Start.{start_words}
use Rattle.session_start.specs.WorkWords.{session_words}
use Rattle.session_start.proofs.WorkWords.{Holds, words_hold, take_session}
use Rattle.mapper.specs.Promise.{Accepts}
use Rattle.mapper.specs.Sessions.{Ran, none, then, words_after}
use Rattle.mapper.proofs.Accepted.{Admitted, admitted, accepts_in}
use Rattle.mapper.proofs.Demand3.{fresh, ran_on, beyond_session, demand3_codes}

-- ---- words beyond the first 16,384

-- two lists of one length that agree from n on agree there with the same words behind them
agree_beyond : (n : ℕ) (xs ys zs : List ℕ) → length xs ≡ length ys → drop n xs ≡ drop n ys → drop n (xs ++ zs) ≡ drop n (ys ++ zs)
agree_beyond zero xs ys zs l e = ap (λ (ws : List ℕ). ws ++ zs) e
agree_beyond (suc n) [] [] zs l e = refl
agree_beyond (suc n) [] (y ∷ ys) zs l e = absurd (omega arith)
agree_beyond (suc n) (x ∷ xs) [] zs l e = absurd (omega arith)
agree_beyond (suc n) (x ∷ xs) (y ∷ ys) zs l e = agree_beyond n xs ys zs (omega arith) e

pub run_beyond : {work : List ℕ} {states : List (List ℕ)} {steps : List Step} {heard : List Answer} → Ran work steps heard states
    → (n : ℕ) → n ≤ length steps → drop work_words (words_after work states n) ≡ drop work_words work
run_beyond run zero l = refl
run_beyond none (suc n) l = absurd (not-suc-le-zero l)
run_beyond (then {work = work} {after = after} {step = step} promise rest) (suc n) l =
    run_beyond rest n (le_of_suc-le-suc l)
    ∙ agree_beyond work_words after (take step.lent work) (drop step.lent work) promise.number promise.beyond
    ∙ ap (drop work_words) (take-append-drop step.lent work)

-- ---- a session copied

-- the same list of steps, run on a session's words after q cells and on a copy of them: the answers and the words of both after each step
pub record Continues (q : ℕ) (words copy : List ℕ) (steps : List Step) (one other : List Answer) (states states' : List (List ℕ)) : Type 0 where
  pub same_answers : one ≡ other
  -- both stand at the same q, in word 3
  pub original_q : (n : ℕ) → n ≤ length steps → get_or (words_after words states n) 3 0 ≡ q + passed_before one n
  pub copy_q : (n : ℕ) → n ≤ length steps → get_or (words_after copy states' n) 3 0 ≡ q + passed_before one n
  pub same_words : (n : ℕ) → n ≤ length steps → take work_words (words_after words states n) ≡ take work_words (words_after copy states' n)
  -- words beyond the first 16,384 are never changed, each buffer keeps its own
  pub original_beyond : (n : ℕ) → n ≤ length steps → drop work_words (words_after words states n) ≡ drop work_words words
  pub copy_beyond : (n : ℕ) → n ≤ length steps → drop work_words (words_after copy states' n) ≡ drop work_words copy

module _ (task : Task) (before : List ℕ) (a : Accepts task before) where
  limits : Admitted task (length before) (hit_count task ∷ [])
  limits = admitted task (length before) (hit_count task ∷ []) a.accepts

  -- a copy is the words of a session itself: of the task begun in the original's first 16,384 words, with the copy's own words behind them
  module _ (copy : List ℕ) (long : work_words ≤ length copy) where
    abbrev begun : List ℕ
    begun = take work_words before ++ drop work_words copy

    first_number_lem : length (take work_words before) ≡ work_words
    first_number_lem = length-take-le work_words before limits.many_words

    begun_long : work_words ≤ length begun
    begun_long = rw (length-append (take work_words before) (drop work_words copy), first_number_lem) (omega arith)

    begun_accepts : Accepts task begun
    begun_accepts = accepts_in task before a begun begun_long

    first_same : (q : ℕ) → take work_words (session_words task before q) ≡ take work_words (session_words task begun q)
    first_same q =
        let enough : work_words ≤ work_words = omega arith in
        take_session task limits.few_hits before work_words enough limits.many_words q
        ∙ ap (λ (words : List ℕ). session_words task words q) (sym (take_at (take work_words before) (drop work_words copy) work_words first_number_lem))
        ∙ sym (take_session task limits.few_hits begun work_words enough begun_long q)

    copy_beyond_same : (q : ℕ) → drop work_words (session_words task begun q) ≡ drop work_words copy
    copy_beyond_same q = beyond_session task begun begun_accepts q ∙ drop_at (take work_words before) (drop work_words copy) work_words first_number_lem

    copy_session : (q : ℕ) → take work_words copy ≡ take work_words (session_words task before q) → copy ≡ session_words task begun q
    copy_session q e =
        sym (take-append-drop work_words copy)
        ∙ ap₂ (λ (xs ys : List ℕ). xs ++ ys) (e ∙ first_same q) (sym (copy_beyond_same q))
        ∙ take-append-drop work_words (session_words task begun q)

  -- a session after q cells, and any words of which the first 16,384 are a copy of its own, however many they are and whatever stands
  -- behind
  pub copied : (q : ℕ) {words copy : List ℕ} {states states' : List (List ℕ)} {steps : List Step} {one other : List Answer}
      → q ≤ cell_count (hit_count task)
      → words ≡ session_words task before q → work_words ≤ length copy → take work_words copy ≡ take work_words words
      → Ran words steps one states → Ran copy steps other states' → Continues q words copy steps one other states states'
  copied q {words} {copy} {states} {states'} {steps} {one} {other} k e long same run run' =
      let r = ran_on task before a q k e run in
      let r' = ran_on task (begun copy long) (begun_accepts copy long) q k (copy_session copy long q (same ∙ ap (take work_words) e)) run' in
      let same_answers : one ≡ other = r.0 ∙ sym r'.0 in
      let at : (n : ℕ) → n ≤ length steps → words_after copy states' n ≡ session_words task (begun copy long) (q + passed_before one n) =
      λ n l. r'.1 n l ∙ ap (λ (answers : List Answer). session_words task (begun copy long) (q + passed_before answers n)) (sym same_answers)
      in
      let holds : (n : ℕ) → Holds task before (q + passed_before one n) (session_words task before (q + passed_before one n)) =
      λ n. words_hold task before (q + passed_before one n) limits.few_hits limits.many_words in
      let copy_holds : (n : ℕ) → Holds task (begun copy long) (q + passed_before one n) (session_words task (begun copy long) (q + passed_before one n)) =
      λ n. words_hold task (begun copy long) (q + passed_before one n) limits.few_hits (begun_long copy long) in
      record {
        same_answers = same_answers;
        original_q = λ n l. ap (λ (w : List ℕ). get_or w passed_at 0) (r.1 n l) ∙ (holds n).passed_word;
        copy_q = λ n l. ap (λ (w : List ℕ). get_or w passed_at 0) (at n l) ∙ (copy_holds n).passed_word;
        same_words = λ n l. ap (take work_words) (r.1 n l) ∙ first_same copy long (q + passed_before one n) ∙ sym (ap (take work_words) (at n l));
        original_beyond = λ n l.
            (ap (drop work_words) (r.1 n l)
            ∙ beyond_session task before a (q + passed_before one n)
            ∙ sym (ap (drop work_words) e ∙ beyond_session task before a q));
        copy_beyond = λ n l. ap (drop work_words) (at n l) ∙ copy_beyond_same copy long (q + passed_before one n);
      }

  -- the same from start on: a copy of the words as any steps have left them
  pub copied_midway : {copy : List ℕ} {before-copy states states' : List (List ℕ)} {first steps : List Step} {heard one other : List Answer}
      → Ran (start_words task before) first heard before-copy
      → (let words = words_after (start_words task before) before-copy (length first) in
      work_words ≤ length copy → take work_words copy ≡ take work_words words → Ran words steps one states → Ran copy steps other states'
      → Continues (passed heard) words copy steps one other states states')
  copied_midway {before-copy = before-copy} {first = first} {heard = heard} start long same run run' =
      let s = ran_on task before a 0 (omega arith) (fresh task before a) start in
      let demanded = (demand3_codes task before a start).demanded in
      let all : passed_before heard (length first) ≡ passed heard = ap passed (take_all (length first) heard (le_of_eq demanded.answered)) in
      let q : 0 + passed_before heard (length first) ≡ passed heard = rw all (omega arith) in
      copied (passed heard) demanded.within (s.1 (length first) (le_refl (length first)) ∙ ap (session_words task before) q) long same run run'

  -- two lists of steps that reach the same q
  pub same_mappings : {states states' : List (List ℕ)} {steps others : List Step} {heard heard' : List Answer}
      → Ran (start_words task before) steps heard states
      → Ran (start_words task before) others heard' states' → passed heard ≡ passed heard' → handed_out heard ≡ handed_out heard'
  same_mappings run run' e =
      demanded_same task (demand3_codes task before a run).demanded (demand3_codes task before a run').demanded e
