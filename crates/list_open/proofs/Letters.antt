-- From the two lines to the session: what the two sketches answer and leave, and what strike and start make of them.
use Prim.Native.Nat.{ℕ, ◌≤◌}
use native.Mathlib.Omega.{arith}
use mathlib.Core.Path.{◌≡◌, sym, ap, ◌∙◌}
use mathlib.Core.List.{List, [], ◌∷◌}
use lib.ListN.{length, take}
use Rattle.std.specs.Prelude.{Result, Ok, Err}
use Rattle.base.specs.Limits.{line_limit}
use Rattle.base.specs.Replies.{Reply, accepted, after}
use Rattle.base.specs.Refusals.{reply_of, refused_by}
use Rattle.base.specs.declared.refusal.Refusal.{Refusal}
use Rattle.kmers.specs.Kmers.{Entry, codes, positions, entries}
use Rattle.minimizers.specs.Sketch.{sketch}
use Rattle.sketch.specs.Replies.{sketch_reply, sketch_codes, sketch_positions}
use Rattle.sketch.specs.Answers.{Sketches}
use Rattle.kmers.proofs.Entries.{entries_same, length_codes, length_positions}
use Rattle.strike.specs.Strike.{struck}
use Rattle.sketch.proofs.Accepted.{Held, sketch_held}
use Rattle.session_start.specs.Start.{start_reply, start_words}
use Rattle.requests.specs.declared.Settings.{Settings}
use Rattle.requests.specs.Requests.{text_of, pattern_of, task_of}
use Rattle.list_open.specs.Calls.{and_then, striking_of, sketches_reply, striking_reply, pattern_reply, calls_reply}
use Rattle.list_open.specs.Opening.{opened_by, opened_of, positions_after, work_after, where_accepted, Opens, OpensSketches}
use Rattle.list_open.proofs.Replies.{front_over}

-- ---- one sketch in two buffers of 4,096 words

module _ (k w : ℕ) (letters codes₀ places₀ codes₁ places₁ : List ℕ) (long : length codes₀ ≡ line_limit) (long' : length places₀ ≡ line_limit) where
  abbrev reply : Reply
  reply = sketch_reply k w letters line_limit line_limit

  pub sketch_replied : (r : Result ℕ Refusal) → Sketches k w letters codes₀ places₀ r codes₁ places₁ → reply_of r ≡ reply
  sketch_replied r made = rw (long, long') at made.answer

  module _ (m : ℕ) (made : Sketches k w letters codes₀ places₀ (Ok m) codes₁ places₁) where
    pub sketch_accepts : reply ≡ accepted (m ∷ [])
    sketch_accepts = sym (sketch_replied (Ok m) made)

    held : Held (length (sketch k w letters)) line_limit line_limit m
    held = sketch_held k w letters line_limit line_limit m sketch_accepts

    -- the entries lie within both buffers
    pub codes_hold : length codes₁ ≡ length codes₀ → m ≤ length codes₁
    codes_hold l = omega (arith, held.in_codes, long)

    pub places_hold : length places₁ ≡ length places₀ → m ≤ length places₁
    places_hold l = omega (arith, held.in_codes, long')

    pub codes_front : take m codes₁ ≡ codes (sketch k w letters)
    unfolding sketch_codes
    codes_front =
        let e : codes₁ ≡ after reply (codes (sketch k w letters)) codes₀ = rw (long, long') at made.codes_after in
        ap (take m) (e ∙ ap (λ (a : Reply). after a (codes (sketch k w letters)) codes₀) sketch_accepts)
        ∙ front_over (codes (sketch k w letters)) codes₀ m (held.number ∙ sym (length_codes (sketch k w letters)))

    pub positions_front : take m places₁ ≡ positions (sketch k w letters)
    unfolding sketch_positions
    positions_front =
        let e : places₁ ≡ after reply (positions (sketch k w letters)) places₀ = rw (long, long') at made.positions_after in
        ap (take m) (e ∙ ap (λ (a : Reply). after a (positions (sketch k w letters)) places₀) sketch_accepts)
        ∙ front_over (positions (sketch k w letters)) places₀ m (held.number ∙ sym (length_positions (sketch k w letters)))

-- ---- the calls one after the other

module _ (s : Settings) (text read places work : List ℕ) where
  abbrev of_text : Reply
  of_text = sketch_reply s.k s.w text line_limit line_limit

  abbrev of_read : Reply
  of_read = sketch_reply s.k s.w read line_limit line_limit

  abbrev text_sketch : List Entry
  text_sketch = sketch s.k s.w text

  abbrev read_sketch : List Entry
  read_sketch = sketch s.k s.w read

  -- what the strike of the text answers by itself, and that of the read
  abbrev text_strike : Reply
  text_strike = striking_of text_sketch text_sketch s.c (length places)

  abbrev read_strike : Reply
  read_strike = striking_of text_sketch read_sketch s.c line_limit

  -- a sketch refuses, and so do all calls
  sketch_refused : (e : Refusal) → sketches_reply s text read ≡ refused_by e → Opens s text read places work (Err e) places work
  unfolding opened_of positions_after work_after calls_reply pattern_reply striking_reply
  sketch_refused e h =
      let back = sym h in
      record {
        answer =
            ap
            (λ (a : Reply). opened_by
            (and_then (and_then (and_then a text_strike) read_strike) (start_reply (task_of s text read) (length work)))
            (length (pattern_of s text read)))
            back;
        positions_after = ap (λ (a : Reply). after (and_then a text_strike) (positions (text_of s text)) places) back;
        work_after =
            ap
            (λ (a : Reply). where_accepted (and_then (and_then a text_strike) read_strike) (start_words (task_of s text read) work) work)
            back;
      }

  pub text_refused : (e : Refusal) → refused_by e ≡ of_text → Opens s text read places work (Err e) places work
  unfolding sketches_reply
  text_refused e h = sketch_refused e (ap (λ (a : Reply). and_then a of_read) (sym h))

  module _ (i : ℕ) (text-accepts : of_text ≡ accepted (i ∷ [])) where
    pub read_refused : (e : Refusal) → refused_by e ≡ of_read → Opens s text read places work (Err e) places work
    unfolding sketches_reply
    read_refused e h = sketch_refused e (ap (λ (a : Reply). and_then a of_read) text-accepts ∙ sym h)

    module _ (j : ℕ) (read-accepts : of_read ≡ accepted (j ∷ [])) where
      striking : (room : ℕ) → striking_reply s text read room ≡ striking_of text_sketch text_sketch s.c room
      unfolding striking_reply sketches_reply
      striking room =
          ap (λ (a : Reply). and_then (and_then a of_read) (striking_of text_sketch text_sketch s.c room)) text-accepts
          ∙ ap (λ (a : Reply). and_then a (striking_of text_sketch text_sketch s.c room)) read-accepts

      -- both sketches are accepted: the rest is the strikes' and start's
      opens_sketches : (r : Result ℕ Refusal) (places' work' : List ℕ)
          → OpensSketches (codes text_sketch) (positions text_sketch) (codes read_sketch) (positions read_sketch) s places work r places' work'
          → Opens s text read places work r places' work'
      unfolding opened_of positions_after work_after calls_reply pattern_reply task_of text_of pattern_of struck
      opens_sketches r places' work' o =
          let texts : entries (codes text_sketch) (positions text_sketch) ≡ text_sketch = entries_same text_sketch in
          let reads : entries (codes read_sketch) (positions read_sketch) ≡ read_sketch = entries_same read_sketch in
          let calls : striking_reply s text read (length places) ≡ text_strike = striking (length places) in
          record {
            answer = rw calls (rw (texts, reads) at o.answer);
            positions_after = rw calls (rw texts at o.positions_after);
            work_after = rw calls (rw (texts, reads) at o.work_after);
          }

      pub opens_fronts : (cs ps rcs rps : List ℕ) → cs ≡ codes text_sketch → ps ≡ positions text_sketch → rcs ≡ codes read_sketch
          → rps ≡ positions read_sketch → (r : Result ℕ Refusal) (places' work' : List ℕ)
          → OpensSketches cs ps rcs rps s places work r places' work'
          → Opens s text read places work r places' work'
      opens_fronts cs ps rcs rps e f g h r places' work' o = opens_sketches r places' work' (rw (e, f, g, h) at o)
