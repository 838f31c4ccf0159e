-- The session that accepted calls of one strand open: what belongs to it, and its lines.
use Prim.Native.Nat.{ℕ, ◌≤◌, ◌<◌}
use native.Mathlib.Omega.{arith}
use mathlib.Core.Path.{◌≡◌, refl, sym, ap, ap₂, ◌∙◌}
use mathlib.Core.Bool.{Bool, true, false}
use mathlib.Core.List.{List, [], ◌∷◌, ◌++◌, map}
use lib.ListN.{length, get_or, drop, length-append, get_or-append}
use Rattle.base.specs.Lists.{keep}
use Rattle.base.specs.Replies.{Reply, accepted, over, after}
use Rattle.base.specs.Limits.{k_limit, letter_limit}
use Rattle.kmers.specs.Kmers.{Entry, codes, positions}
use Rattle.minimizers.specs.Sketch.{sketch}
use Rattle.minimizers.proofs.Laws.{positions_below}
use Rattle.kmers.proofs.Entries.{length_codes, length_positions}
use Rattle.strike.specs.Strike.{struck}
use Rattle.strike.proofs.Laws.{strike_below}
use Rattle.mappings.specs.Score.{Task}
use Rattle.mappings.specs.Definition1.{Final}
use Rattle.mappings.specs.Cells.{Cell, hit_count, mapping_of, left_end, right_end}
use Rattle.mappings.specs.FinalTest.{is_final_cell}
use Rattle.mappings.proofs.Definition1.{test_final}
use Rattle.session_start.specs.Start.{start_reply, start_words, after_start}
use Rattle.session_start.specs.WorkWords.{session_words}
use Rattle.mapper.proofs.Accepted.{admitted}
use Rattle.strands.specs.declared.Strand.{Strand}
use Rattle.requests.specs.declared.Settings.{Settings}
use Rattle.requests.specs.Requests.{text_of, pattern_of, task_of}
use Rattle.list_open.specs.Calls.{calls_reply}
use Rattle.list_open.specs.Opening.{positions_after, work_after, where_accepted}
use Rattle.list_open.proofs.Accepted.{pattern_accepts, starts, strike_accepts, call_limits}
use Rattle.list_lines.specs.Lines.{mapping_line, mapping_lines}
use Rattle.list_lines.specs.Pieces.{Belongs}

module _ (s : Settings) (text read places work : List ℕ) (values : List ℕ)
    (accepts : calls_reply s text read (length places) (length work) ≡ accepted values) where
  abbrev task : Task
  task = task_of s text read

  abbrev of_text : List ℕ
  of_text = positions (text_of s text)

  abbrev text_sketch : List Entry
  text_sketch = sketch s.k s.w text

  start_said : start_reply task (length work) ≡ accepted values
  start_said = starts s text read (length places) (length work) values accepts

  pub start_accepts : start_reply task (length work) ≡ accepted (hit_count task ∷ [])
  start_accepts = start_said ∙ ap accepted (admitted task (length work) values start_said).answered

  limits : (1 ≤ s.k) × (s.k ≤ k_limit) × (length text ≤ letter_limit)
  limits = call_limits s text read (length places) (length work) values accepts

  -- the buffers after the calls: the positions of the struck text, and the words of the fresh session
  pub places_are : positions_after s text read places ≡ over of_text places
  unfolding positions_after
  places_are = ap (λ (a : Reply). after a of_text places) (strike_accepts s text read (length places) (length work) values accepts).1

  pub words_are : work_after s text read (length places) work ≡ session_words task work 0
  unfolding work_after start_words
  words_are =
      ap (λ (a : Reply). where_accepted a (start_words task work) work) (pattern_accepts s text read (length places) (length work) values accepts).1
      ∙ ap (λ (a : Reply). after_start a task work) start_said

  text_length : length task.text ≡ length of_text
  unfolding task_of
  text_length = length_codes (text_of s text) ∙ sym (length_positions (text_of s text))

  below : (i : ℕ) → i < length of_text → get_or of_text i 0 < length text
  unfolding text_of struck
  below = strike_below (codes text_sketch) s.c text_sketch (length text) (positions_below s.k s.w text limits.0)

  place : (i : ℕ) → i < length task.text → get_or (over of_text places) i 0 ≡ get_or of_text i 0
  place i h = get_or-append of_text (drop (length of_text) places) 0 i (rw text_length at h)

  pub session_belongs : Belongs task (over of_text places) s.k (length (pattern_of s text read))
  unfolding task_of
  session_belongs = record {
    enough =
        let l = length-append of_text (drop (length of_text) places) in let e : length (codes (text_of s text)) ≡ length of_text = text_length in omega arith;
    k_some = limits.0;
    size_is = sym (length_codes (pattern_of s text read));
    last_small = λ b h.
        let l : length text ≤ letter_limit = limits.2 in
        let k : s.k ≤ k_limit = limits.1 in
        let p : get_or of_text b 0 < length text = below b (rw text_length at h) in
        rw (place b h) (omega arith);
  }

  -- the lines from the lent positions are those of the definition
  module _ (strand : Strand) where
    abbrev lines : List ℕ → List Cell → List ℕ
    lines from l = mapping_lines from s.k (length (pattern_of s text read)) strand (map (mapping_of task) (keep (is_final_cell task) l))

    line_same : (cell : Cell) → is_final_cell task cell ≡ true
        → mapping_line (over of_text places) s.k (length (pattern_of s text read)) strand (mapping_of task cell)
        ≡ mapping_line of_text s.k (length (pattern_of s text read)) strand (mapping_of task cell)
    unfolding mapping_line is_final_cell mapping_of
    line_same cell t =
        let f : Final task (left_end task cell) (right_end task cell) = test_final task (left_end task cell) (right_end task cell) t in
        let l : left_end task cell < length task.text = omega (arith, f.ordered, f.within) in
        rw (place (left_end task cell) l, place (right_end task cell) f.within)

    pub lines_same : (l : List Cell) → lines (over of_text places) l ≡ lines of_text l
    lines_same [] = refl
    lines_same (cell ∷ l) = go (is_final_cell task cell) refl (lines_same l)
      where
        go : (t : Bool) → is_final_cell task cell ≡ t → lines (over of_text places) l ≡ lines of_text l
            → lines (over of_text places) (cell ∷ l) ≡ lines of_text (cell ∷ l)
        go true t rec = rw t (ap₂ ◌++◌ (line_same cell t) rec)
        go false t rec = rw t rec
