-- Each piece that `fill` writes goes on where the one before ended, and less is left.
use Prim.Native.Nat.{ℕ, suc, ◌+◌, ◌-◌, ◌≤◌, ◌<◌}
use native.Mathlib.Omega.{arith}
use mathlib.Core.Path.{◌≡◌, refl, sym, ap, ap₂, ◌∙◌}
use mathlib.Core.Logic.{◌⊎◌, inl, inr}
use mathlib.Core.Bool.{Bool, true, false, cond}
use mathlib.Core.List.{List, [], ◌∷◌, ◌++◌, append_assoc}
use lib.Dec.{ltb}
use lib.ListN.{length, get_or, take, length-append}
use borrow.Author.Tests.{ltb-true, ltb-false, ne_eqb}
use Rattle.mappings.specs.Score.{Task}
use Rattle.mappings.specs.Cells.{Mapping, hit_count}
use Rattle.mappings.proofs.Rule.{total}
use Rattle.session_words.specs.FirstWords.{passed_at}
use Rattle.mapper.proofs.Accepted.{admitted}
use Rattle.mapper.proofs.StepPromise.{in_session}
use Rattle.strands.specs.declared.Strand.{Strand}
use Rattle.strands.specs.declared.Strand.TheVariants.{Forward, Reverse}
use Rattle.list_line.specs.Line.{decimal}
use Rattle.list_line.proofs.Buffers.{written_index}
use Rattle.list_line.proofs.Decimal.{length_decimal}
use Rattle.list_line.proofs.Writers.{take_written}
use Rattle.list_lines.specs.Lines.{mapping_lines}
use Rattle.list_lines.specs.Pieces.{line_room, cells_left, cell_limit, finals_after, lines_after}
use Rattle.list_lines.specs.declared.filling.Filled.{Filled}
use Rattle.list_lines.proofs.Left.{few_cells}
use Rattle.list_lines.proofs.Rest.{all_passed}
use Rattle.list_lines.proofs.Going.{session_left}
use Rattle.list_lines.proofs.Belonging.{went}
use Rattle.list_printed.specs.Output.{last_line, output_of}
use Rattle.list_output.specs.Filling.{Part, FillsRun}
use Rattle.list_output.specs.Whole.{InHand, Printing}
use Rattle.list_output.proofs.Turns.{with_other}

-- all is printed, or two sessions are left to print from
abbrev pub After : List ℕ → List ℕ → List ℕ → List ℕ → ℕ → ℕ → ℕ → ℕ → ℕ → List ℕ → Type 0
After bytes places forward reverse k size size' found left done =
    ((left ≡ 0) × (done ≡ output_of bytes)) ⊎ Printing bytes places forward reverse k size size' found left done

-- ---- lists joined in another order

onward : (done new more end : List ℕ) {lines end' : List ℕ} → new ++ more ≡ lines → end ≡ end'
    → (done ++ new) ++ (more ++ end) ≡ done ++ (lines ++ end')
onward done new more end h e =
    append_assoc done new (more ++ end) ∙ ap (λ (l : List ℕ). done ++ l) (sym (append_assoc new more end) ∙ ap₂ ◌++◌ h e)

-- ---- a session in hand

module _ {task : Task} {places : List ℕ} {k size : ℕ} {work : List ℕ} {q : ℕ} (h : InHand task places k size work q) where
  few : total task ≤ cell_limit
  few = few_cells (hit_count task) (admitted task (length h.before) (hit_count task ∷ []) h.accepts.accepts).few_hits

  pub left_in_hand : cells_left work ≡ suc (total task - q)
  left_in_hand = session_left task h.before q work h.accepts h.among h.words

  passed_in_hand : get_or work passed_at 0 ≡ q
  passed_in_hand = (in_session task h.before q work h.accepts h.words).held.passed_word

-- no cell remains, and so no mapping
none_after : (task : Task) (q : ℕ) → q ≡ total task → finals_after task q ≡ []
none_after task q e = ap (finals_after task) e ∙ all_passed task

-- ---- a piece of one session

-- it comes to q₁ cells; what was printed and what is left make up what was left before
record Moved (task : Task) (places : List ℕ) (k size : ℕ) (strand : Strand) (q found other : ℕ) (r : Filled) (work' out' : List ℕ) : Type 0 where
  q₁ : ℕ
  in_hand : InHand task places k size work' q₁
  further : q < q₁
  grown : r.found + q ≤ found + q₁
  left_is : r.left ≡ suc (total task - q₁) + other
  tally : r.found + length (finals_after task q₁) ≡ found + length (finals_after task q)
  printed : take r.written out' ++ lines_after task places k size strand q₁ ≡ lines_after task places k size strand q

moved : {task : Task} {work places : List ℕ} {k size : ℕ} {strand : Strand} {q found : ℕ} {out : List ℕ} {other : ℕ}
    {r : Filled} {work' out' : List ℕ} → InHand task places k size work q → found ≤ cell_limit + q → line_room ≤ length out → q < total task
    → Part work places k size strand found out other r work' out' → Moved task places k size strand q found other r work' out'
moved {task} {places = places} {k} {size} {strand} {q} {found} {other = other} {r} {out' = out'} h counted long some made =
    let step = made.fills.session task h.before q h.accepts h.among h.words in
    let q₁ : ℕ = step.0 in
    let w = went task h.before places k size strand q found h.accepts h.belongs counted step.1 long some in
    let grown : made.part.found + q ≤ found + q₁ = step.1.counted in
    record {
      q₁ = q₁;
      in_hand = record { before = h.before; accepts = h.accepts; belongs = h.belongs; among = step.1.among; words = step.1.words };
      further = w.further;
      grown = omega (arith, made.found_is);
      left_is =
          made.left_is ∙ with_other made.part.left other (λ z. omega (arith, w.left_is)) ∙ ap (λ (n : ℕ). n + other) w.left_is;
      tally = omega (arith, made.found_is, w.tally);
      printed = ap (λ (n : ℕ). take n out' ++ lines_after task places k size strand q₁) made.written_is ∙ w.bytes;
    }

-- a session in hand whose words stay
stays : {task : Task} {places : List ℕ} {k size : ℕ} {work work' : List ℕ} {q : ℕ} → InHand task places k size work q → work' ≡ work
    → InHand task places k size work' q
stays h e = record { before = h.before; accepts = h.accepts; belongs = h.belongs; among = h.among; words = e ∙ h.words }

-- ---- the last line

some_last : (found cells : ℕ) → (0 < length (last_line found cells)) × (length (last_line found cells) ≤ 64)
unfolding last_line
some_last found cells =
    let a : length (decimal found) ≤ 10 = length_decimal found in
    let b : length (decimal cells) ≤ 10 = length_decimal cells in
    (simp length-append (omega arith), simp length-append (omega arith))

-- ---- a piece

module _ {bytes places forward reverse : List ℕ} {k size size' found left : ℕ} {done : List ℕ}
    (p : Printing bytes places forward reverse k size size' found left done) (out : List ℕ) (r : Filled) (forward' reverse' out' : List ℕ)
    (long : line_room ≤ length out) (f : FillsRun forward reverse places k size size' found out r forward' reverse' out') where
  abbrev task : Task
  task = p.task

  abbrev task' : Task
  task' = p.task'

  abbrev q : ℕ
  q = p.q

  abbrev q' : ℕ
  q' = p.q'

  abbrev Goes : Type 0
  Goes = (r.left < left) × After bytes places forward' reverse' k size size' r.found r.left (done ++ take r.written out')

  forward_left : cells_left forward ≡ suc (total task - q)
  forward_left = left_in_hand p.ahead

  reverse_left : cells_left reverse ≡ suc (total task' - q')
  reverse_left = left_in_hand p.behind

  -- the last line, as the mappings printed up to now and those left after so many cells make it
  abbrev ending : ℕ → ℕ → List ℕ
  ending i j = last_line (r.found + length (finals_after task i) + length (finals_after task' j)) (total task + total task')

  -- lines of the forward session
  goes_forward : q < total task → Goes
  goes_forward some =
      let made = f.of_forward (omega (arith, forward_left)) (omega (arith, reverse_left)) in
      let most : total task' ≤ cell_limit = few p.behind in
      let m = moved p.ahead (omega (arith, p.counted, p.behind.among)) long some made.0 in
      let new : List ℕ = take r.written out' in
      let lines₁ : List ℕ = lines_after task places k size Forward m.q₁ in
      let lines' : List ℕ = lines_after task' places k size' Reverse q' in
      let count : r.found + length (finals_after task m.q₁) + length (finals_after task' q')
      ≡ found + length (finals_after task q) + length (finals_after task' q') = omega (arith, m.tally) in (
        omega (arith, p.remaining, m.left_is, reverse_left, m.further, m.in_hand.among),
        inr
            (record {
              task = task;
              task' = task';
              q = m.q₁;
              q' = q';
              ahead = m.in_hand;
              behind = stays p.behind made.1;
              counted = omega (arith, m.grown, p.counted);
              remaining = m.left_is ∙ ap (λ (n : ℕ). suc (total task - m.q₁) + n) reverse_left;
              rest =
                  onward done new (lines₁ ++ lines') (ending m.q₁ q')
                  (sym (append_assoc new lines₁ lines') ∙ ap (λ (l : List ℕ). l ++ lines') m.printed)
                  (ap (λ (n : ℕ). last_line n (total task + total task')) count)
                  ∙ p.rest;
            }),
      )

  -- lines of the other session, when no cell of the forward one remains
  goes_reverse : q ≡ total task → q' < total task' → Goes
  goes_reverse gone some =
      let made = f.of_reverse (omega (arith, forward_left)) (omega (arith, reverse_left)) in
      let most : total task ≤ cell_limit = few p.ahead in
      let m = moved p.behind (omega (arith, p.counted)) long some made.0 in
      let none : finals_after task q ≡ [] = none_after task q gone in
      let after_none : List ℕ → List Mapping → List ℕ = λ lines l. mapping_lines places k size Forward l ++ lines in
      let new : List ℕ = take r.written out' in
      let lines₁ : List ℕ = lines_after task' places k size' Reverse m.q₁ in
      let lines' : List ℕ = lines_after task' places k size' Reverse q' in
      let count : r.found + length (finals_after task q) + length (finals_after task' m.q₁)
      ≡ found + length (finals_after task q) + length (finals_after task' q') = omega (arith, m.tally) in
      let now : r.left ≡ suc (total task - q) + suc (total task' - m.q₁) = omega (arith, m.left_is, forward_left) in (
        omega (arith, p.remaining, m.further, m.in_hand.among),
        inr
            (record {
              task = task;
              task' = task';
              q = q;
              q' = m.q₁;
              ahead = stays p.ahead made.1;
              behind = m.in_hand;
              counted = omega (arith, m.grown, p.counted);
              remaining = now;
              rest =
                  onward done new (lines_after task places k size Forward q ++ lines₁) (ending q m.q₁)
                  (ap (λ (l : List Mapping). new ++ after_none lines₁ l) none ∙ m.printed ∙ sym (ap (after_none lines') none))
                  (ap (λ (n : ℕ). last_line n (total task + total task')) count)
                  ∙ p.rest;
            }),
      )

  -- the last line, when no cell remains at all
  goes_last : q ≡ total task → q' ≡ total task' → Goes
  goes_last gone gone' =
      let made = f.last (omega (arith, forward_left)) (omega (arith, reverse_left)) in
      let cells : ℕ = get_or forward passed_at 0 + get_or reverse passed_at 0 in
      let passed : cells ≡ total task + total task' = ap₂ ◌+◌ (passed_in_hand p.ahead ∙ gone) (passed_in_hand p.behind ∙ gone') in
      let size_last = some_last found cells in
      let index : r.written ≡ 0 + length (last_line found cells) = written_index made.0.line (omega (arith, size_last)) in
      let some : 0 < r.written = omega (arith, size_last) in
      let none_left : r.left ≡ 0 = made.0.left_is ∙ ap (λ (b : Bool). cond b 2 0) (ne_eqb r.written 0 (λ z. omega arith)) in
      let none : finals_after task q ≡ [] = none_after task q gone in
      let none' : finals_after task' q' ≡ [] = none_after task' q' gone' in
      let count : found ≡ found + 0 + 0 = omega arith in
      let printed : take r.written out' ≡ last_line found cells = take_written made.0.line (omega (arith, size_last)) in (
        omega (arith, p.remaining),
        inl (
          none_left,
          ap (λ (l : List ℕ). done ++ l) (printed ∙ ap₂ last_line count passed)
              ∙ sym (ap₂ (λ (l m : List Mapping). done ++ (mapping_lines places k size Forward l ++ mapping_lines places k size' Reverse m
              ++ last_line (found + length l + length m) (total task + total task'))) none none')
              ∙ p.rest,
        ),
      )

  goes : Goes
  goes = go (ltb q (total task)) refl (ltb q' (total task')) refl
    where
      go : (a : Bool) → ltb q (total task) ≡ a → (b : Bool) → ltb q' (total task') ≡ b → Goes
      go true e b e' = goes_forward (ltb-true q (total task) e)
      go false e true e' =
          let l : total task ≤ q = ltb-false q (total task) e in
          goes_reverse (omega (arith, p.ahead.among)) (ltb-true q' (total task') e')
      go false e false e' =
          let l : total task ≤ q = ltb-false q (total task) e in
          let l' : total task' ≤ q' = ltb-false q' (total task') e' in
          goes_last (omega (arith, p.ahead.among)) (omega (arith, p.behind.among))

-- each further piece, with room for any line: it goes on where the one before ended, and less is left
pub next_prints : (bytes places forward reverse : List ℕ) (k size size' found left : ℕ) (done : List ℕ)
    → After bytes places forward reverse k size size' found left done → 0 < left
    → (out : List ℕ) (r : Filled) (forward' reverse' out' : List ℕ) → line_room ≤ length out
    → FillsRun forward reverse places k size size' found out r forward' reverse' out'
    → (r.left < left) × After bytes places forward' reverse' k size size' r.found r.left (done ++ take r.written out')
next_prints bytes places forward reverse k size size' found left done (inl e) some out r forward' reverse' out' long f = absurd (omega (arith, e.0))
next_prints bytes places forward reverse k size size' found left done (inr p) some out r forward' reverse' out' long f =
    goes p out r forward' reverse' out' long f
