-- From the two sketches to the session: what the two strikes and start, one after the other, answer and leave.
use Prim.Native.Nat.{ℕ, ◌≤◌}
use native.Mathlib.Omega.{arith}
use mathlib.Core.Path.{◌≡◌, refl, sym, ap, ◌∙◌}
use mathlib.Core.List.{List, [], ◌∷◌}
use lib.ListN.{length, take}
use Rattle.std.specs.Prelude.{Result, Ok, Err}
use Rattle.base.specs.Limits.{line_limit}
use Rattle.base.specs.Replies.{Reply, accepted, after}
use Rattle.base.specs.Refusals.{reply_of, refused_by}
use Rattle.base.specs.declared.refusal.Refusal.{Refusal}
use Rattle.kmers.specs.Kmers.{codes, positions, entries}
use Rattle.kmers.proofs.Entries.{length_codes}
use Rattle.requests.specs.declared.Settings.{Settings}
use Rattle.strike.specs.Strike.{strike, strike_reply, strike_codes, strike_positions}
use Rattle.sketch.proofs.Accepted.{Held}
use Rattle.strike.proofs.Accepted.{strike_held}
use Rattle.mappings.specs.Score.{Task, task_with}
use Rattle.session_start.specs.Start.{start_reply, start_words}
use Rattle.list_open.specs.Calls.{and_then}
use Rattle.list_open.specs.Opening.{opened_by, where_accepted, pattern_task, struck_task, OpensSketches, OpensPattern}
use Rattle.list_open.proofs.Replies.{front_over}

-- ---- one strike into a buffer of 4,096 codes and one for positions

pub record StrikeMade (deciding cs ps : List ℕ) (c : ℕ) (codes₀ places₀ : List ℕ) (r : Result ℕ Refusal) (codes₁ places₁ : List ℕ) :
    Type 0 where
  pub answer : reply_of r ≡ strike_reply deciding cs ps c (length codes₀) (length places₀)
  pub codes_after : codes₁ ≡ strike_codes deciding cs ps c codes₀ places₀
  pub positions_after : places₁ ≡ strike_positions deciding cs ps c codes₀ places₀

-- the same from what a strike ensures
pub strike_made : (deciding cs ps : List ℕ) (c : ℕ) (codes₀ places₀ : List ℕ) (r : Result ℕ Refusal) (codes₁ places₁ : List ℕ)
    → reply_of r ≡ strike_reply deciding cs ps c (length codes₀) (length places₀)
    → codes₁ ≡ strike_codes deciding cs ps c codes₀ places₀
    → places₁ ≡ strike_positions deciding cs ps c codes₀ places₀
    → StrikeMade deciding cs ps c codes₀ places₀ r codes₁ places₁
strike_made deciding cs ps c codes₀ places₀ r codes₁ places₁ e f g = record { answer = e; codes_after = f; positions_after = g }

module _ (deciding cs ps : List ℕ) (c : ℕ) (codes₀ places₀ codes₁ places₁ : List ℕ) (room : ℕ) (long : length codes₀ ≡ line_limit)
    (long' : length places₀ ≡ room) where
  abbrev reply : Reply
  reply = strike_reply deciding cs ps c line_limit room

  pub strike_replied : (r : Result ℕ Refusal) → StrikeMade deciding cs ps c codes₀ places₀ r codes₁ places₁ → reply_of r ≡ reply
  strike_replied r made = rw (long, long') at made.answer

  pub positions_left : (r : Result ℕ Refusal) → StrikeMade deciding cs ps c codes₀ places₀ r codes₁ places₁
      → places₁ ≡ after reply (positions (strike deciding c (entries cs ps))) places₀
  unfolding strike_positions
  positions_left r made = rw (long, long') at made.positions_after

  module _ (m : ℕ) (made : StrikeMade deciding cs ps c codes₀ places₀ (Ok m) codes₁ places₁) where
    pub strike_accepts : reply ≡ accepted (m ∷ [])
    strike_accepts = sym (strike_replied (Ok m) made)

    held : Held (length (strike deciding c (entries cs ps))) line_limit room m
    held = strike_held deciding cs ps c line_limit room m strike_accepts

    pub strike_counts : m ≡ length (strike deciding c (entries cs ps))
    strike_counts = held.number

    -- the entries kept lie within their buffer
    pub strike_inside : length codes₁ ≡ length codes₀ → m ≤ length codes₁
    strike_inside l = omega (arith, held.in_codes, long)

    pub strike_front : take m codes₁ ≡ codes (strike deciding c (entries cs ps))
    unfolding strike_codes
    strike_front =
        let e : codes₁ ≡ after reply (codes (strike deciding c (entries cs ps))) codes₀ = rw (long, long') at made.codes_after in
        ap (take m) (e ∙ ap (λ (a : Reply). after a (codes (strike deciding c (entries cs ps))) codes₀) strike_accepts)
        ∙ front_over (codes (strike deciding c (entries cs ps))) codes₀ m (held.number ∙ sym (length_codes (strike deciding c (entries cs ps))))

-- ---- from the strike of the read on

module _ (cs text rcs rps : List ℕ) (s : Settings) (work : List ℕ) where
  abbrev read_reply : Reply
  read_reply = strike_reply cs rcs rps s.c line_limit line_limit

  abbrev task : Task
  task = pattern_task cs text rcs rps s

  abbrev size : ℕ
  size = length (strike cs s.c (entries rcs rps))

  abbrev opened_with : Reply → Reply
  opened_with reply = opened_by (and_then reply (start_reply task (length work))) size

  pub pattern_refused : (e : Refusal) → refused_by e ≡ read_reply → OpensPattern cs text rcs rps s work (Err e) work
  pattern_refused e h =
      record {
        answer = ap opened_with h;
        work_after = ap (λ (a : Reply). where_accepted a (start_words task work) work) h;
      }

  module _ (m : ℕ) (accepts : read_reply ≡ accepted (m ∷ [])) (pattern : List ℕ) (front : pattern ≡ codes (strike cs s.c (entries rcs rps)))
      (r : Result ℕ Refusal) (work' : List ℕ) (started : reply_of r ≡ start_reply (task_with text pattern s.scoring) (length work))
      (words : work' ≡ start_words (task_with text pattern s.scoring) work) where
    starts : reply_of r ≡ start_reply task (length work)
    starts = started ∙ ap (λ (l : List ℕ). start_reply (task_with text l s.scoring) (length work)) front

    work_is : work' ≡ where_accepted read_reply (start_words task work) work
    work_is =
        words ∙ ap (λ (l : List ℕ). start_words (task_with text l s.scoring) work) front
        ∙ sym (ap (λ (a : Reply). where_accepted a (start_words task work) work) accepts)

    -- what start answers, as the answer of both
    opened : opened_by (reply_of r) size ≡ opened_with read_reply
    opened = ap (λ (a : Reply). opened_by a size) starts ∙ sym (ap opened_with accepts)

    pub starts_with : (answer : Result ℕ Refusal) → reply_of answer ≡ opened_by (reply_of r) size → OpensPattern cs text rcs rps s work answer work'
    starts_with answer e = record { answer = e ∙ opened; work_after = work_is }

-- ---- from the strike of the text on

module _ (cs ps rcs rps : List ℕ) (s : Settings) (places work places' : List ℕ)
    (left : places' ≡ after (strike_reply cs cs ps s.c line_limit (length places)) (positions (strike cs s.c (entries cs ps))) places) where
  abbrev text_reply : Reply
  text_reply = strike_reply cs cs ps s.c line_limit (length places)

  abbrev next_reply : Reply
  next_reply = strike_reply cs rcs rps s.c line_limit line_limit

  abbrev task_struck : Task
  task_struck = struck_task cs ps rcs rps s

  abbrev pattern_size : ℕ
  pattern_size = length (strike cs s.c (entries rcs rps))

  -- what is left once the answer of both strikes is known
  opens_both : (both : Reply) → and_then text_reply next_reply ≡ both → (r : Result ℕ Refusal) (work' : List ℕ)
      → reply_of r ≡ opened_by (and_then both (start_reply task_struck (length work))) pattern_size
      → work' ≡ where_accepted both (start_words task_struck work) work
      → OpensSketches cs ps rcs rps s places work r places' work'
  opens_both both e r work' f g =
      record {
        answer = f ∙ sym (ap (λ (a : Reply). opened_by (and_then a (start_reply task_struck (length work))) pattern_size) e);
        positions_after = left;
        work_after = g ∙ sym (ap (λ (a : Reply). where_accepted a (start_words task_struck work) work) e);
      }

  pub text_struck_refused : (e : Refusal) → refused_by e ≡ text_reply → OpensSketches cs ps rcs rps s places work (Err e) places' work
  text_struck_refused e h =
      opens_both (refused_by e) (ap (λ (a : Reply). and_then a next_reply) (sym h)) (Err e) work refl refl

  pub text_struck : (m : ℕ) → text_reply ≡ accepted (m ∷ []) → (text : List ℕ) → text ≡ codes (strike cs s.c (entries cs ps))
      → (r : Result ℕ Refusal) (work' : List ℕ) → OpensPattern cs text rcs rps s work r work'
      → OpensSketches cs ps rcs rps s places work r places' work'
  text_struck m accepts text front r work' o =
      let own : OpensPattern cs (codes (strike cs s.c (entries cs ps))) rcs rps s work r work' = rw front at o in
      opens_both next_reply (ap (λ (a : Reply). and_then a next_reply) accepts) r work' own.answer own.work_after
