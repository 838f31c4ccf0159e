-- Laws of striking block by block: what a block keeps and what those behind it keep make all that is kept.
use Prim.Native.Nat.{ℕ, ◌+◌, ◌-◌, ◌≤◌}
use native.Mathlib.Omega.{arith}
use mathlib.Core.Path.{◌≡◌, sym, ap, ap₂, ◌∙◌}
use mathlib.Core.List.{List, ◌++◌, append_assoc, append-nil}
use lib.Dec.{leb}
use lib.ListN.{length, take, drop, length-map, length-append, length-drop, drop_of_length-le}
use lib.Seq.{take_at, drop_at, drop-drop, length-take-le, take_all}
use Rattle.base.specs.Lists.{sum}
use Rattle.base.specs.Counts.{occ}
use Rattle.base.specs.Replies.{over}
use Rattle.base.proofs.Lists.{sum_append, map_append}
use Rattle.marking.specs.Marks.{mark_of, marks_of}
use Rattle.strike.specs.Marked.{marked_words}
use Rattle.strike.proofs.Marked.{marked_append, marked_number, sum_marks_le}

-- the buffer whose first words are written, once these are written behind them
abbrev pub behind : ℕ → List ℕ → List ℕ → List ℕ
behind at new out = take at out ++ over new (drop at out)

behind_more : (at : ℕ) (new more out : List ℕ) → at + length new ≤ length out
    → behind (at + length new) more (take at out ++ over new (drop at out)) ≡ behind at (new ++ more) out
behind_more at new more out room =
    let front : length (take at out ++ new) ≡ at + length new =
    length-append (take at out) new ∙ ap (λ (i : ℕ). i + length new) (length-take-le at out (omega arith)) in
    let rest = drop (length new) (drop at out) in
    ap (behind (at + length new) more) (sym (append_assoc (take at out) new rest))
    ∙ ap₂ (λ (a b : List ℕ). a ++ over more b)
    (take_at (take at out ++ new) rest (at + length new) front)
    (drop_at (take at out ++ new) rest (at + length new) front)
    ∙ append_assoc (take at out) new (over more rest)
    ∙ ap (λ (l : List ℕ). take at out ++ l)
    (sym (append_assoc new more (drop (length more) rest))
    ∙ ap (λ (l : List ℕ). (new ++ more) ++ l) (drop-drop (length more) (length new) (drop at out))
    ∙ ap (λ (i : ℕ). (new ++ more) ++ drop i (drop at out)) (sym (length-append new more)))

module _ (deciding : List ℕ) (c : ℕ) where
  pub marks_parts : (block rest : List ℕ) → marks_of deciding c (block ++ rest) ≡ marks_of deciding c block ++ marks_of deciding c rest
  marks_parts block rest = map_append (mark_of deciding c) block rest

  pub kept_parts : (codes block rest : List ℕ) → codes ≡ block ++ rest
      → sum (marks_of deciding c codes) ≡ sum (marks_of deciding c block) + sum (marks_of deciding c rest)
  kept_parts codes block rest e =
      ap (λ (l : List ℕ). sum (marks_of deciding c l)) e
      ∙ ap sum (marks_parts block rest)
      ∙ sum_append (marks_of deciding c block) (marks_of deciding c rest)

  -- no more entries are kept than there are
  pub kept_few : (codes : List ℕ) → sum (marks_of deciding c codes) ≤ length codes
  kept_few codes = sum_marks_le (λ (x : ℕ). leb (occ x deciding) c) codes

  -- the words kept of a block are written behind those written, into the part of the buffer that is lent from `at` on; those kept of
  -- the rest are still to come
  pub copied_block : (codes block rest words piece more out part : List ℕ) (at n : ℕ) → codes ≡ block ++ rest → words ≡ piece ++ more
      → length piece ≡ length block
      → n ≡ sum (marks_of deciding c block)
      → at + n ≤ length out
      → part ≡ over (marked_words (marks_of deciding c block) piece) (take (length out - at) (drop at out))
      → behind (at + n) (marked_words (marks_of deciding c rest) more) (take at out ++ (part ++ drop (length out - at) (drop at out)))
      ≡ behind at (marked_words (marks_of deciding c codes) words) out
  copied_block codes block rest words piece more out part at n split cut paired e room written =
      let new = marked_words (marks_of deciding c block) piece in
      let after = marked_words (marks_of deciding c rest) more in
      let long : length new ≡ n = marked_number (λ (x : ℕ). leb (occ x deciding) c) block piece paired ∙ sym e in
      let marks : length (marks_of deciding c block) ≡ length piece = length-map block (mark_of deciding c) ∙ sym paired in
      let size : length (drop at out) ≡ length out - at = length-drop at out in
      let none : part ++ drop (length out - at) (drop at out) ≡ part =
      ap (λ (l : List ℕ). part ++ l) (drop_of_length-le (drop at out) {i = length out - at} (omega arith)) ∙ append-nil part in
      let lent : part ≡ over new (drop at out) = written ∙ ap (over new) (take_all (length out - at) (drop at out) (omega arith)) in
      ap₂ (λ (i : ℕ) (l : List ℕ). behind (at + i) after (take at out ++ l)) (sym long) (none ∙ lent)
      ∙ behind_more at new after out (omega arith)
      ∙ ap (λ (l : List ℕ). behind at l out)
      (sym (ap₂ (λ (a b : List ℕ). marked_words (marks_of deciding c a) b) split cut
      ∙ ap (λ (m : List ℕ). marked_words m (piece ++ more)) (marks_parts block rest)
      ∙ marked_append (marks_of deciding c block) (marks_of deciding c rest) piece more marks))

-- what is left of two lists of one length behind parts of one length
pub rests_paired : (codes block rest words piece more : List ℕ) → codes ≡ block ++ rest → words ≡ piece ++ more → length codes ≡ length words
    → length block ≡ length piece
    → length rest ≡ length more
rests_paired codes block rest words piece more split cut paired same =
    let first : length codes ≡ length block + length rest = ap length split ∙ length-append block rest in
    let second : length words ≡ length piece + length more = ap length cut ∙ length-append piece more in
    omega arith

-- the part of a buffer that is lent from `at` on
pub room_left : (at n : ℕ) (out : List ℕ) → at + n ≤ length out → n ≤ length (take (length out - at) (drop at out))
room_left at n out h =
    let size : length (drop at out) ≡ length out - at = length-drop at out in
    let lent : length (take (length out - at) (drop at out)) ≡ length out - at = length-take-le (length out - at) (drop at out) (omega arith) in
    omega arith
