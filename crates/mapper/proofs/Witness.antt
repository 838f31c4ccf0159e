-- Demand 3's hypotheses can be met, with either score: for document 01's own example sketch, both strikes and start accept, with buffers of
-- four words and 16,384 zeros, and every list of steps can be run on the session that start then leaves.
use Rattle.std.specs.Prelude.{Result, Err}
use Prim.Native.Nat.{ℕ, ◌≤◌}
use native.Mathlib.Omega.{arith}
use mathlib.Core.Path.{◌≡◌, refl, ap, ◌∙◌}
use mathlib.Core.Bool.{Bool, true, false}
use mathlib.Core.List.{List, [], ◌∷◌, ◌++◌}
use lib.Dec.{ltb}
use lib.IntN.{pos}
use lib.ListN.{length, take, drop, replicate, length-replicate}
use borrow.Author.Tests.{ltb-true, ltb-false}
use Rattle.base.specs.Replies.{accepted}
use Rattle.base.specs.declared.refusal.Refusal.{Refusal}
use Rattle.base.specs.Limits.{work_words}
use Rattle.mappings.specs.declared.Scoring.{Scoring}
use Rattle.mappings.specs.declared.Scoring.TheVariants.{Linear, Jaccard}
use Rattle.mappings.specs.Score.{ThresholdFits}
use Rattle.mappings.specs.Rule.{Answer, Step}
use Rattle.strike.proofs.Compute.{strike_computes}
use Rattle.mappings.proofs.Compute.{mappings_compute}
use Rattle.requests.specs.declared.Settings.{Settings}
use Rattle.requests.specs.Requests.{task_of}
use Rattle.session_start.specs.Start.{bad_weights, bad_fraction, start_reply, start_words}
use Rattle.mapper.specs.declared.answer.Stepped.{Stepped}
use Rattle.mapper.specs.Answers.{answer_of}
use Rattle.mapper.specs.Step.{bad_words}
use Rattle.mapper.specs.Promise.{StepPromise}
use Rattle.mapper.specs.Sessions.{Ran, none, then, Lent, AllAccept, Demand3}
use Rattle.mapper.specs.Sessions.{text_codes, text_positions, read_codes, read_positions, struck_codes, pattern_codes, start_task}
use Rattle.mapper.proofs.StepPromise.{few_promise, bad_promise, walk_promise}
use Rattle.mapper.proofs.Demand3.{demand3}

-- ---- sketch, both strikes and start accept

-- u = v = 1 and threshold 1; and the threshold 1/1
abbrev pub linear : Scoring
linear = Linear 1 1 (pos 1)

abbrev pub fraction : Scoring
fraction = Jaccard 1 1

-- ACAG and ACG, k = w = 1, c = 100
abbrev pub asked : Scoring → Settings
asked scoring = record { k = 1; w = 1; c = 100; scoring = scoring }

abbrev pub text : List ℕ
text = 65 ∷ 67 ∷ 65 ∷ 71 ∷ []

abbrev pub read : List ℕ
read = 65 ∷ 67 ∷ 71 ∷ []

abbrev four : List ℕ
four = 0 ∷ 0 ∷ 0 ∷ 0 ∷ []

abbrev pub buffers : Lent
buffers = record {
  text_codes = four;
  text_positions = four;
  read_codes = four;
  read_positions = four;
  struck_codes = four;
  struck_positions = four;
  pattern_codes = four;
  pattern_positions = four;
  work = replicate work_words 0;
}

unfoldable calls_compute : Unit {0}
unfolding text_codes text_positions read_codes read_positions struck_codes pattern_codes start_task
calls_compute = tt

-- start, with the number of work words written out, so that no list of them is computed
abbrev Starts : Scoring → Type 0
Starts scoring = start_reply (start_task (asked scoring) text read buffers 4 3 4 3) work_words ≡ accepted (4 ∷ [])

linear_starts : Starts linear
unfolding strike_computes mappings_compute bad_weights start_reply calls_compute
linear_starts = refl

fraction_starts : Starts fraction
unfolding strike_computes mappings_compute bad_fraction start_reply calls_compute
fraction_starts = refl

-- four entries of the text and three of the read, of which the strikes keep all, and four hits
accepts : (scoring : Scoring) → Starts scoring → ThresholdFits scoring → AllAccept (asked scoring) text read buffers 4 3 4 3 4
unfolding strike_computes mappings_compute calls_compute
accepts scoring starts fits = record {
  sketch_text = refl;
  sketch_read = refl;
  strike_text = refl;
  strike_read = refl;
  start = ap (start_reply (start_task (asked scoring) text read buffers 4 3 4 3)) (length-replicate {A = ℕ} work_words 0) ∙ starts;
  threshold_fits = fits;
}

pub all_accept : AllAccept (asked linear) text read buffers 4 3 4 3 4
all_accept = accepts linear linear_starts (omega arith)

pub all_accept_fraction : AllAccept (asked fraction) text read buffers 4 3 4 3 4
all_accept_fraction = accepts fraction fraction_starts tt

-- ---- steps can be run

-- some answer and some words keep step's promise, whatever the words before it are
promise_kept : (work : List ℕ) (budget : ℕ) → (answer : Result Stepped Refusal) × (after : List ℕ) × StepPromise work budget answer after
promise_kept work budget = number (ltb (length work) work_words) refl
  where
    words : (b : Bool) → bad_words work ≡ b → work_words ≤ length work
        → (answer : Result Stepped Refusal) × (after : List ℕ) × StepPromise work budget answer after
    words true e l = (Err Refusal.BadWords, work, bad_promise work budget l e)
    words false e l = (_, _, walk_promise work budget l e)

    number : (b : Bool) → ltb (length work) work_words ≡ b → (answer : Result Stepped Refusal) × (after : List ℕ) × StepPromise work budget answer after
    number true e = (Err Refusal.TooFewWords, work, few_promise work budget (ltb-true (length work) work_words e))
    number false e = words (bad_words work) refl (ltb-false (length work) work_words e)

pub runs : (work : List ℕ) (steps : List Step) → (heard : List Answer) × (states : List (List ℕ)) × Ran work steps heard states
runs work [] = ([], [], none)
runs work (step ∷ steps) =
    let one = promise_kept (take step.lent work) step.budget in
    let rest = runs (one.1 ++ drop step.lent work) steps in
    (answer_of one.0 ∷ rest.0, (one.1 ++ drop step.lent work) ∷ rest.1, then one.2 rest.2)

-- the words of the example's fresh session
abbrev begun : Scoring → List ℕ
begun scoring = start_words (start_task (asked scoring) text read buffers 4 3 4 3) buffers.work

-- a list of steps has a run on the example's session, and demand 3 speaks of it
abbrev Met : Scoring → List Step → Type 0
Met scoring steps =
    (heard : List Answer) × (states : List (List ℕ)) × Ran (begun scoring) steps heard states
    × Demand3 (task_of (asked scoring) text read) (begun scoring) steps heard states

met : (scoring : Scoring) → AllAccept (asked scoring) text read buffers 4 3 4 3 4 → (steps : List Step) → Met scoring steps
met scoring all steps =
    let run = runs (begun scoring) steps in
    (run.0, run.1, run.2, demand3 (asked scoring) text read buffers 4 3 4 3 4 all run.2)

-- so has any, with either score
pub demand3_met : (steps : List Step) → Met linear steps
demand3_met = met linear all_accept

pub demand3_met_fraction : (steps : List Step) → Met fraction steps
demand3_met_fraction = met fraction all_accept_fraction
