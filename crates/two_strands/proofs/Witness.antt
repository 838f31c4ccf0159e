-- The hypotheses of a two-strand run can be met, with either score: for document 01's own example the calls accept the read and its
-- complement, and any two lists of steps can be run.
use Prim.Native.Nat.{ℕ}
use native.Mathlib.Omega.{arith}
use mathlib.Core.Path.{◌≡◌, refl, ap, ◌∙◌}
use mathlib.Core.List.{List, [], ◌∷◌}
use lib.ListN.{length-replicate}
use Rattle.base.specs.Replies.{accepted}
use Rattle.base.specs.Limits.{work_words}
use Rattle.mappings.specs.declared.Scoring.{Scoring}
use Rattle.mappings.specs.Score.{ThresholdFits}
use Rattle.mappings.specs.Rule.{Step}
use Rattle.mappings.proofs.Compute.{mappings_compute}
use Rattle.strands.specs.declared.Strand.{Strand}
use Rattle.strands.specs.declared.Strand.TheVariants.{Forward, Reverse}
use Rattle.strands.specs.Strands.{read_on}
use Rattle.strands.proofs.Compute.{strands_compute}
use Rattle.strike.proofs.Compute.{strike_computes}
use Rattle.session_start.specs.Start.{bad_weights, bad_fraction, start_reply, start_words}
use Rattle.mapper.specs.Sessions.{AllAccept}
use Rattle.mapper.specs.Sessions.{text_codes, text_positions, read_codes, read_positions, struck_codes, pattern_codes, start_task}
use Rattle.mapper.proofs.Witness.{linear, fraction, asked, text, read, buffers, all_accept, all_accept_fraction, runs}
use Rattle.two_strands.specs.TwoStrands.{StrandSession, RunsBoth, Demand3Both}
use Rattle.two_strands.proofs.Demand3.{demand3_both}

-- CGT, the complement of ACG
abbrev back : List ℕ
back = 67 ∷ 71 ∷ 84 ∷ []

is_back : read_on Reverse read ≡ back
unfolding strands_compute
is_back = refl

unfoldable calls_compute : Unit {0}
unfolding text_codes text_positions read_codes read_positions struck_codes pattern_codes start_task
calls_compute = tt

-- start, with the number of work words written out, so that no list of them is computed
abbrev Starts : Scoring → Type 0
Starts scoring = start_reply (start_task (asked scoring) text back buffers 4 3 4 3) work_words ≡ accepted (2 ∷ [])

linear_starts : Starts linear
unfolding strike_computes mappings_compute bad_weights start_reply calls_compute
linear_starts = refl

fraction_starts : Starts fraction
unfolding strike_computes mappings_compute bad_fraction start_reply calls_compute
fraction_starts = refl

-- the strikes keep all entries of the text and of the complement, and C and G are hits
back_accepts : (scoring : Scoring) → Starts scoring → ThresholdFits scoring → AllAccept (asked scoring) text back buffers 4 3 4 3 2
unfolding strike_computes mappings_compute calls_compute
back_accepts scoring starts fits = record {
  sketch_text = refl;
  sketch_read = refl;
  strike_text = refl;
  strike_read = refl;
  start = ap (start_reply (start_task (asked scoring) text back buffers 4 3 4 3)) (length-replicate {A = ℕ} work_words 0) ∙ starts;
  threshold_fits = fits;
}

-- any two lists of steps have a run, and demand 3 speaks of both
module _ (scoring : Scoring) (steps : Strand → List Step) where
  abbrev begun : List ℕ → List ℕ
  begun letters = start_words (start_task (asked scoring) text letters buffers 4 3 4 3) buffers.work

  abbrev session : ℕ → List ℕ → Strand → StrandSession
  session h letters strand =
      record {
        lent = buffers;
        text_entries = 4;
        read_entries = 3;
        text_kept = 4;
        read_kept = 3;
        hits = h;
        steps = steps strand;
        answers = (runs (begun letters) (steps strand)).0;
        states = (runs (begun letters) (steps strand)).1;
      }

  abbrev pub sessions : Strand → StrandSession
  sessions Forward = session 4 read Forward
  sessions Reverse = session 2 back Reverse

  abbrev pub Met : Type 0
  Met = RunsBoth (asked scoring) text read sessions × Demand3Both (asked scoring) text read sessions

  module _ (forward : AllAccept (asked scoring) text read buffers 4 3 4 3 4) (reverse : AllAccept (asked scoring) text back buffers 4 3 4 3 2) where
    both_run : RunsBoth (asked scoring) text read sessions
    both_run Forward = record { accepts = forward; ran = (runs (begun read) (steps Forward)).2 }
    both_run Reverse =
        rw is_back (record { accepts = reverse; ran = (runs (begun back) (steps Reverse)).2 })

    met : Met
    met = (both_run, demand3_both (asked scoring) text read sessions both_run)

pub demand3_both_met : (steps : Strand → List Step) → Met linear steps
demand3_both_met steps = met linear steps all_accept (back_accepts linear linear_starts (omega arith))

pub demand3_both_met_fraction : (steps : Strand → List Step) → Met fraction steps
demand3_both_met_fraction steps = met fraction steps all_accept_fraction (back_accepts fraction fraction_starts tt)
