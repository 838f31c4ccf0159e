-- What the calls of one strand and then those of the other answer and leave together.
use Prim.Native.Nat.{ℕ}
use native.Mathlib.Omega.{arith}
use mathlib.Core.Path.{◌≡◌, refl, sym, ap, ◌∙◌}
use mathlib.Core.List.{List, ◌++◌}
use lib.ListN.{length, drop}
use lib.Seq.{drop-append_seam}
use Rattle.std.specs.Prelude.{Result, Ok, Err}
use Rattle.base.specs.Replies.{Reply, accepted, refused, over, after}
use Rattle.base.specs.Refusals.{refusal_number, refused_by, reply_of}
use Rattle.base.specs.declared.refusal.Refusal.{Refusal}
use Rattle.kmers.specs.Kmers.{positions}
use Rattle.strands.specs.Complement.{reverse_complement}
use Rattle.requests.specs.declared.Settings.{Settings}
use Rattle.requests.specs.Requests.{text_of, pattern_of}
use Rattle.list_input.specs.Input.{given}
use Rattle.list_open.specs.Calls.{and_then, striking_reply, calls_reply}
use Rattle.list_open.specs.Opening.{opened_by, opened_of, positions_after, work_after, where_accepted, Opens}
use Rattle.list_open.proofs.Accepted.{strike_accepts}
use Rattle.list_sessions.specs.Calls.{strands_reply}
use Rattle.list_sessions.specs.Sessions.{refused_with, both, sessions_by, sessions_of, places_after, forward_after, reverse_after, OpensBoth}

-- ---- the answer of one strand

opened_refused : (reply : Reply) (size : ℕ) (e : Refusal) → opened_by reply size ≡ reply_of (Err e) → reply ≡ refused_by e
opened_refused (accepted values) size e h = absurd (let z : ◌≡◌ {A = ℕ} 0 1 = cc in omega arith)
opened_refused (refused number values) size e h = h

opened_session : (reply : Reply) (size n : ℕ) → opened_by reply size ≡ reply_of (Ok n) → ((values : List ℕ) × (reply ≡ accepted values)) × (n ≡ size)
opened_session (accepted values) size n h = let same : n ≡ size = cc in ((values, refl), same)
opened_session (refused number values) size n h = absurd (let z : ◌≡◌ {A = ℕ} 0 1 = cc in omega arith)

-- ---- the same words written once more

over_again : (new old : List ℕ) → over new (over new old) ≡ over new old
over_again new old = ap (λ (l : List ℕ). new ++ l) (drop-append_seam new (drop (length new) old))

after_over : (reply : Reply) (new old : List ℕ) → after reply new (over new old) ≡ over new old
after_over (accepted values) new old = over_again new old
after_over (refused number values) new old = refl

-- ---- both strands

module _ (s : Settings) (text read places forward reverse : List ℕ) where
  abbrev back : List ℕ
  back = reverse_complement read

  abbrev ahead : Reply
  ahead = calls_reply s text read (length places) (length forward)

  abbrev behind : Reply
  behind = calls_reply s text back (length places) (length reverse)

  abbrev size : ℕ
  size = length (pattern_of s text read)

  abbrev size' : ℕ
  size' = length (pattern_of s text back)

  module _ {o : Result ℕ Refusal} {places₁ forward₁ : List ℕ} (first : Opens s text read places forward o places₁ forward₁) where
    -- the forward read is refused: the calls of its complement are not made
    pub first_refused : (e : Refusal) → o ≡ Err e
        → OpensBoth (given s text read) places forward reverse (refused_with (refusal_number e)) places₁ forward₁ reverse
    unfolding sessions_of places_after forward_after reverse_after strands_reply opened_of
    first_refused e is =
        let r = opened_refused ahead size e (sym first.answer ∙ ap reply_of is) in
        record {
          answer = sym (ap (λ (a : Reply). sessions_by (and_then a behind) s.k size size') r);
          positions_after = first.positions_after;
          forward_after = first.work_after;
          reverse_after = sym (ap (λ (a : Reply). where_accepted a (work_after s text back (length places) reverse) reverse) r);
        }

    -- it opens a session, and then the calls of the complement are made with the positions as the first ones left them
    module _ (n : ℕ) (e : o ≡ Ok n) (long : length places₁ ≡ length places) {o' : Result ℕ Refusal} {places₂ reverse₂ : List ℕ}
        (second : Opens s text back places₁ reverse o' places₂ reverse₂) where
      opened : ((values : List ℕ) × (ahead ≡ accepted values)) × (n ≡ size)
      unfolding opened_of
      opened = opened_session ahead size n (sym first.answer ∙ ap reply_of e)

      same_places : places₂ ≡ positions_after s text read places
      unfolding positions_after
      same_places =
          let new : List ℕ = positions (text_of s text) in
          let strikes = strike_accepts s text read (length places) (length forward) opened.0.0 opened.0.1 in
          let once : positions_after s text read places ≡ over new places = ap (λ (a : Reply). after a new places) strikes.1 in
          second.positions_after
          ∙ ap (λ (l : List ℕ). after (striking_reply s text back (length places₁)) new l) (first.positions_after ∙ once)
          ∙ after_over (striking_reply s text back (length places₁)) new places
          ∙ sym once

      both_strands : sessions_by behind s.k size size' ≡ sessions_of (given s text read) (length places) (length forward) (length reverse)
      unfolding sessions_of strands_reply
      both_strands = sym (ap (λ (a : Reply). sessions_by (and_then a behind) s.k size size') opened.0.1)

      words : reverse₂ ≡ reverse_after (given s text read) (length places) (length forward) reverse
      unfolding reverse_after
      words =
          second.work_after
          ∙ ap (λ (i : ℕ). work_after s text back i reverse) long
          ∙ sym (ap (λ (a : Reply). where_accepted a (work_after s text back (length places) reverse) reverse) opened.0.1)

      answered : reply_of o' ≡ opened_by behind size'
      unfolding opened_of
      answered = second.answer ∙ ap (λ (i : ℕ). opened_by (calls_reply s text back i (length reverse)) size') long

      pub second_refused : (e : Refusal) → o' ≡ Err e
          → OpensBoth (given s text read) places forward reverse (refused_with (refusal_number e)) places₂ forward₁ reverse₂
      unfolding places_after forward_after
      second_refused e f =
          let r = opened_refused behind size' e (sym answered ∙ ap reply_of f) in
          record {
            answer = sym (ap (λ (a : Reply). sessions_by a s.k size size') r) ∙ both_strands;
            positions_after = same_places;
            forward_after = first.work_after;
            reverse_after = words;
          }

      pub second_opened : (n' : ℕ) → o' ≡ Ok n'
          → OpensBoth (given s text read) places forward reverse (both s.k n n') places₂ forward₁ reverse₂
      unfolding places_after forward_after
      second_opened n' f =
          let r = opened_session behind size' n' (sym answered ∙ ap reply_of f) in
          record {
            answer =
                (λ i. both s.k (opened.1 i) (r.1 i)) ∙ sym (ap (λ (a : Reply). sessions_by a s.k size size') r.0.1) ∙ both_strands;
            positions_after = same_places;
            forward_after = first.work_after;
            reverse_after = words;
          }
