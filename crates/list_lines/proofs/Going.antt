-- A piece in the making: what `fill_lines` has written so far, and what each answer of step adds to it.
use Prim.Native.Nat.{ℕ, suc, ◌+◌, ◌-◌, ◌≤◌, ◌<◌}
use native.Mathlib.Nat.{le_refl, sub-zero}
use native.Mathlib.Omega.{arith}
use mathlib.Core.Path.{◌≡◌, refl, sym, ap, ◌∙◌, subst}
use mathlib.Core.Logic.{inl, inr}
use mathlib.Core.Bool.{Bool, true, false}
use mathlib.Core.List.{List, [], ◌∷◌, ◌++◌, append_assoc, append-nil}
use lib.ListN.{length, take, drop, length-append}
use borrow.Author.Tests.{le-ltb, lt-ltb, le-leb, lt-leb}
use Rattle.std.specs.Prelude.{Result, Ok, Err}
use Rattle.base.specs.Limits.{work_words, hit_limit}
use Rattle.base.specs.declared.refusal.Refusal.{Refusal}
use Rattle.mappings.specs.declared.Score.{Score}
use Rattle.mappings.specs.Score.{Task}
use Rattle.mappings.specs.Cells.{Mapping, hit_count}
use Rattle.mappings.specs.Rule.{Answer, found, finished, refused, reported, rule_answer}
use Rattle.mappings.proofs.Rule.{total}
use Rattle.session_start.specs.WorkWords.{session_words}
use Rattle.mapper.specs.declared.answer.Stepped.{Stepped}
use Rattle.mapper.specs.declared.answer.Stepped.TheVariants.{Found, Finished, Spent}
use Rattle.mapper.specs.Answers.{answer_of}
use Rattle.mapper.specs.Step.{too_few_words}
use Rattle.mapper.specs.Promise.{Accepts, StepPromise}
use Rattle.mapper.proofs.Accepted.{Admitted, admitted}
use Rattle.mapper.proofs.StepPromise.{in_session}
use Rattle.list_line.specs.Line.{line}
use Rattle.list_line.specs.Writing.{Written}
use Rattle.list_line.proofs.Buffers.{written_index}
use Rattle.list_line.proofs.Decimal.{length_line}
use Rattle.list_lines.specs.Lines.{mapping_line, mapping_lines}
use Rattle.strands.specs.declared.Strand.{Strand}
use Rattle.list_lines.specs.Pieces.{MappingWritten, finals_after, lines_after, cells_left, is_held, is_printed, lines_in, cell_limit, found_limit}
use Rattle.list_lines.specs.Pieces.{line_room, step_budget, passed_for, Piece, refused_words, Unmoved, Fills}
use Rattle.list_lines.specs.declared.filling.Filled.{Filled}
use Rattle.list_line.proofs.Writers.{take_written, drop_later}
use Rattle.list_lines.proofs.Rest.{found_next, found_within, finished_next, never_spent, never_refused}
use Rattle.list_lines.proofs.Left.{few_cells, left_few}
use Rattle.list_lines.proofs.Numbers.{held_facts}

-- after q cells and `count` mappings, `at` bytes are written of what was left to print after q₀ cells and `found` mappings
pub record On (task : Task) (before places : List ℕ) (k size : ℕ) (strand : Strand) (q₀ found : ℕ) (out₀ out work : List ℕ) (at count q : ℕ) :
    Type 0 where
  pub onward : q₀ ≤ q
  pub among : q ≤ total task
  pub counted : count + q₀ ≤ found + q
  pub words : work ≡ session_words task before q
  pub lines : count + lines_in places k size strand (length out₀ - at) count (finals_after task q)
      ≡ found + lines_in places k size strand (length out₀) found (finals_after task q₀)
  pub place : passed_for task q (lines_in places k size strand (length out₀ - at) count (finals_after task q))
      ≡ passed_for task q₀ (lines_in places k size strand (length out₀) found (finals_after task q₀))
  pub tally : count + length (finals_after task q) ≡ found + length (finals_after task q₀)
  pub bytes : take at out ++ lines_after task places k size strand q ≡ lines_after task places k size strand q₀
  pub moved : 0 < at → q₀ < q

-- a session whose words are those at the start
pub record InPiece (task : Task) (before work₀ : List ℕ) (q₀ : ℕ) : Type 0 where
  pub accepts : Accepts task before
  pub among : q₀ ≤ total task
  pub words : work₀ ≡ session_words task before q₀

-- the words beyond a session's and the bytes behind those written are as they came, and so is all for words that step refuses; and so it
-- stands for every session
pub record Going (work₀ places : List ℕ) (k size : ℕ) (strand : Strand) (found : ℕ) (out₀ out work : List ℕ) (at count : ℕ) : Type 0 where
  pub beyond : drop work_words work ≡ drop work_words work₀
  pub past : drop at out ≡ drop at out₀
  pub unmoved : refused_words work₀ ≡ true → (at ≡ 0) × (count ≡ found) × (work ≡ work₀) × (out ≡ out₀)
  pub on : (task : Task) (before : List ℕ) (q₀ : ℕ) → InPiece task before work₀ q₀
      → (q : ℕ) × On task before places k size strand q₀ found out₀ out work at count q

pub going_start : (work places : List ℕ) (k size : ℕ) (strand : Strand) (count : ℕ) (out : List ℕ)
    → Going work places k size strand count out out work 0 count
going_start work places k size strand count out = record {
  beyond = refl;
  past = refl;
  unmoved = λ e. (refl, refl, refl, refl);
  on = λ task before q₀ p. (
    q₀,
    record {
      onward = le_refl q₀;
      among = p.among;
      counted = le_refl (count + q₀);
      words = p.words;
      lines = ap (λ (n : ℕ). count + lines_in places k size strand n count (finals_after task q₀)) (sub-zero (length out));
      place = ap (λ (n : ℕ). passed_for task q₀ (lines_in places k size strand n count (finals_after task q₀))) (sub-zero (length out));
      tally = refl;
      bytes = refl;
      moved = λ h. absurd (omega arith);
    },
  );
}

-- ---- answers

-- a step's promise for the answer that it gave
pub answered : {work : List ℕ} {B : ℕ} {r answer : Result Stepped Refusal} {work' : List ℕ} → StepPromise work B r work' → r ≡ answer
    → StepPromise work B answer work'
answered {work} {B} {work' = work'} promise e = subst (λ (a : Result Stepped Refusal). StepPromise work B a work') e promise

-- neither found nor finished
abbrev pub Other : Result Stepped Refusal → Type 0
Other (Ok (Found a b score m cells)) = ⊥
Other (Ok (Finished cells)) = ⊥
Other (Ok (Spent cells)) = Unit {0}
Other (Err refusal) = Unit {0}

-- a step on words that it refuses
refused_step : {work : List ℕ} {B : ℕ} {answer : Result Stepped Refusal} {work' : List ℕ} → StepPromise work B answer work' → refused_words work ≡ true
    → ((n : ℕ) × (answer_of answer ≡ refused n)) × (work' ≡ work)
unfolding refused_words
refused_step {work} {B} {answer} {work'} promise e = go (too_few_words work) refl
  where
    go : (c : Bool) → too_few_words work ≡ c → ((n : ℕ) × (answer_of answer ≡ refused n)) × (work' ≡ work)
    go true t = let f = promise.few t in ((10, f.0), f.1)
    go false t = let f = promise.bad t (rw t at e) in ((15, f.0), f.1)

length_mapping : (places : List ℕ) (k size : ℕ) (strand : Strand) (mapping : Mapping)
    → (0 < length (mapping_line places k size strand mapping)) × (length (mapping_line places k size strand mapping) ≤ line_room)
unfolding mapping_line line
length_mapping places k size strand mapping = (simp length-append (omega arith), length_line _ _ mapping.score mapping.m _ strand)

-- how many lines are written: without room for one, with a first that is not written, and with one that is
module _ (places : List ℕ) (k size : ℕ) (strand : Strand) (room count : ℕ) where
  lines_none : (finals : List Mapping) → room < line_room → lines_in places k size strand room count finals ≡ 0
  lines_none [] h = refl
  lines_none (mapping ∷ finals) h = rw (lt-leb line_room room h)

  module _ (mapping : Mapping) (finals : List Mapping) (h : line_room ≤ room) where
    lines_stuck : is_printed places k size count mapping ≡ false → lines_in places k size strand room count (mapping ∷ finals) ≡ 0
    lines_stuck e = rw (le-leb line_room room h, e)

    lines_some : is_printed places k size count mapping ≡ true
        → lines_in places k size strand room count (mapping ∷ finals)
        ≡ suc (lines_in places k size strand (room - length (mapping_line places k size strand mapping)) (count + 1) finals)
    lines_some e = rw (le-leb line_room room h, e)

-- a line is not written for the count, or for its numbers
pub too_many : (places : List ℕ) (k size count : ℕ) (mapping : Mapping) → found_limit ≤ count → is_printed places k size count mapping ≡ false
unfolding is_printed
too_many places k size count mapping h = rw (le-ltb count found_limit h)

pub not_printed : (places : List ℕ) (k size count : ℕ) (mapping : Mapping) → count < found_limit
    → is_held places k size mapping.a mapping.b mapping.m ≡ false → is_printed places k size count mapping ≡ false
unfolding is_printed
not_printed places k size count mapping h e = rw (lt-ltb count found_limit h, e)

pub printed : (places : List ℕ) (k size count : ℕ) (mapping : Mapping) → count < found_limit
    → is_held places k size mapping.a mapping.b mapping.m ≡ true → is_printed places k size count mapping ≡ true
unfolding is_printed
printed places k size count mapping h e = rw (lt-ltb count found_limit h, e)

-- ---- the contract

-- all of the contract, from what is so at a turn and what the turn adds
fills : (work₀ places : List ℕ) (k size : ℕ) (strand : Strand) (found₀ : ℕ) (out₀ out work : List ℕ) (at count : ℕ)
    → Going work₀ places k size strand found₀ out₀ out work at count
    → length out ≡ length out₀ → length work ≡ length work₀ → (r : Filled) (work' out' : List ℕ)
    → length work' ≡ length work → drop work_words work' ≡ drop work_words work → length out' ≡ length out → at ≤ r.written
    → r.written ≤ length out
    → drop r.written out' ≡ drop r.written out → r.left ≤ suc cell_limit
    → (refused_words work₀ ≡ true → Unmoved work₀ found₀ out₀ r work' out')
    → ((task : Task) (before : List ℕ) (q₀ : ℕ) → InPiece task before work₀ q₀
    → (q' : ℕ) × Piece task places k size strand q₀ found₀ out₀ r out' q' before work')
    → Fills work₀ places k size strand found₀ out₀ r work' out'
fills work₀ places k size strand found₀ out₀ out work at count going same_out same_work r work' out' number beyond long onward inside past few unmoved
    piece = record {
      inside = omega arith;
      long = long ∙ same_out;
      past = past ∙ drop_later at r.written out out₀ onward going.past;
      number = number ∙ same_work;
      beyond = beyond ∙ going.beyond;
      few = few;
      refused = unmoved;
      session = λ task before q a l w. piece task before q (record { accepts = a; among = l; words = w });
    }

-- ---- a turn with room for a line

module _ (work₀ places : List ℕ) (k size : ℕ) (strand : Strand) (found₀ : ℕ) (out₀ out work : List ℕ) (at count : ℕ)
    (inside : at ≤ length out)
    (same : length out ≡ length out₀)
    (room : line_room ≤ length out - at) (going : Going work₀ places k size strand found₀ out₀ out work at count) where
  refused_now : (answer : Result Stepped Refusal) (work' : List ℕ) → StepPromise work step_budget answer work' → refused_words work₀ ≡ true
      → ((n : ℕ) × (answer_of answer ≡ refused n)) × (work' ≡ work)
  refused_now answer work' promise e = refused_step promise (ap refused_words (going.unmoved e).2 ∙ e)

  -- a mapping's line is written, and moves the index, exactly where its numbers hold it
  module _ (a b : ℕ) (score : Score) (m next : ℕ) (out' : List ℕ) (put : MappingWritten places k size strand a b score m at out out' next) where
    abbrev putting : Mapping
    putting = record { a = a; b = b; score = score; m = m }

    fitting : at + length (mapping_line places k size strand putting) ≤ length out
    fitting = let l = length_mapping places k size strand putting in omega arith

    wrote : is_held places k size a b m ≡ true → Written (mapping_line places k size strand putting) at out out' next
    wrote e = let f = held_facts places k size a b m e in put.held f.0 f.1 f.2 inside

    pub unheld : next ≤ at → is_held places k size a b m ≡ false
    unheld l = go (is_held places k size a b m) refl
      where
        go : (c : Bool) → is_held places k size a b m ≡ c → is_held places k size a b m ≡ false
        go true e = absurd
            (let i : next ≡ at + length (mapping_line places k size strand putting) = written_index (wrote e) fitting in let s =
            length_mapping places k size strand putting in omega arith)
        go false e = e

    held : at < next → is_held places k size a b m ≡ true
    held l = go (is_held places k size a b m) refl
      where
        go : (c : Bool) → is_held places k size a b m ≡ c → is_held places k size a b m ≡ true
        go true e = e
        go false e = absurd (let i : next ≡ at = (put.none e).0 in omega arith)

  module _ (task : Task) (before : List ℕ) (q₀ : ℕ) (p : InPiece task before work₀ q₀) where
    q : ℕ
    q = (going.on task before q₀ p).0

    on : On task before places k size strand q₀ found₀ out₀ out work at count q
    unfolding q
    on = (going.on task before q₀ p).1

    limits : Admitted task (length before) (hit_count task ∷ [])
    limits = admitted task (length before) (hit_count task ∷ []) p.accepts.accepts

    ruled : (answer : Result Stepped Refusal) (work' : List ℕ) → StepPromise work step_budget answer work'
        → (rule_answer task q step_budget ≡ answer_of answer) × (work' ≡ session_words task before (q + reported (answer_of answer)))
    ruled answer work' promise =
        let s = promise.session task before q p.accepts on.among on.words in
        (sym s.0, s.1 ∙ ap (λ (a : Answer). session_words task before (q + reported a)) (sym s.0))

    -- ---- found

    module _ (a b : ℕ) (score : Score) (m cells : ℕ) (work' : List ℕ) (promise : StepPromise work step_budget (Ok (Found a b score m cells)) work') where
      abbrev mapping : Mapping
      mapping = record { a = a; b = b; score = score; m = m }

      rule : rule_answer task q step_budget ≡ found mapping cells
      rule = (ruled (Ok (Found a b score m cells)) work' promise).0

      within : (0 < cells) × (q + cells ≤ total task)
      within = found_within task q step_budget on.among mapping cells rule

      finals : finals_after task q ≡ mapping ∷ finals_after task (q + cells)
      finals = found_next task q step_budget on.among mapping cells rule

      module _ (next : ℕ) (out' : List ℕ) (put : MappingWritten places k size strand a b score m at out out' next) (few : count < found_limit)
          (further : at < next) where
        is_held_lem : is_held places k size a b m ≡ true
        is_held_lem = held a b score m next out' put further

        line_written : Written (mapping_line places k size strand mapping) at out out' next
        line_written = wrote a b score m next out' put is_held_lem

        line_fits : at + length (mapping_line places k size strand mapping) ≤ length out
        line_fits = fitting a b score m next out' put

        after : ℕ
        after = lines_in places k size strand (length out₀ - next) (count + 1) (finals_after task (q + cells))

        one_more : lines_in places k size strand (length out₀ - at) count (finals_after task q) ≡ suc after
        unfolding after
        one_more =
            let i : next ≡ at + length (mapping_line places k size strand mapping) = written_index line_written line_fits in
            let e : length out₀ - at - length (mapping_line places k size strand mapping) ≡ length out₀ - next = omega arith in
            ap (lines_in places k size strand (length out₀ - at) count) finals
            ∙ lines_some places k size strand (length out₀ - at) count mapping (finals_after task (q + cells)) (omega arith)
            (printed places k size count mapping few is_held_lem)
            ∙ ap (λ (n : ℕ). suc (lines_in places k size strand n (count + 1) (finals_after task (q + cells)))) e

        on_place : passed_for task (q + cells) after ≡ passed_for task q (lines_in places k size strand (length out₀ - at) count (finals_after task q))
        on_place = sym (ap (passed_for task q) one_more ∙ ap (λ (a : Answer). passed_for task (q + reported a) after) rule)

        found_on_lem : (q' : ℕ) × On task before places k size strand q₀ found₀ out₀ out' work' next (count + 1) q'
        unfolding after
        found_on_lem = (
          q + cells,
          record {
            onward = let o = on.onward in omega arith;
            among = within.1;
            counted = let w = within in let c = on.counted in omega arith;
            words = (ruled (Ok (Found a b score m cells)) work' promise).1;
            lines = let l = on.lines in let o = one_more in omega arith;
            place = on_place ∙ on.place;
            tally = let t = on.tally in let l : length (finals_after task q) ≡ suc (length (finals_after task (q + cells))) = ap length finals in omega arith;
            bytes =
                let rest : List ℕ = lines_after task places k size strand (q + cells) in
                ap (λ (l : List ℕ). l ++ rest) (take_written line_written line_fits)
                ∙ append_assoc (take at out) (mapping_line places k size strand mapping) rest
                ∙ ap (λ (l : List ℕ). take at out ++ l) (sym (ap (mapping_lines places k size strand) finals))
                ∙ on.bytes;
            moved = λ h. let o = on.onward in let w = within in omega arith;
          },
        )

      -- the line is not written
      stuck_piece : is_printed places k size count mapping ≡ false → (out' : List ℕ) → out' ≡ out → (r : Filled)
          → r.written ≡ at → r.found ≡ count
          → r.left ≡ 0 → (q' : ℕ) × Piece task places k size strand q₀ found₀ out₀ r out' q' before work'
      stuck_piece unprinted out' eo r ew ef el =
          let none_more : lines_in places k size strand (length out₀ - at) count (finals_after task q) ≡ 0 =
          ap (lines_in places k size strand (length out₀ - at) count) finals
          ∙ lines_stuck places k size strand (length out₀ - at) count mapping (finals_after task (q + cells)) (omega arith) unprinted in
          let w = within in (
            q + cells,
            record {
              onward = let o = on.onward in omega arith;
              among = w.1;
              counted = let c = on.counted in omega arith;
              words = (ruled (Ok (Found a b score m cells)) work' promise).1;
              found_is = let l = on.lines in omega arith;
              ends =
                  inr
                  (inr
                  (record {
                    none_left = el;
                    had_room = omega arith;
                    from = q;
                    from_is = sym (ap (passed_for task q) none_more) ∙ on.place;
                    place = ap (λ (x : Answer). q + reported x) (sym rule);
                    mapping = mapping;
                    next = finals;
                    unprinted = rw ef unprinted;
                    counted = let c = on.counted in omega arith;
                    bytes = rw (ew, eo) on.bytes;
                  }));
            },
          )

    -- ---- finished

    module _ (cells : ℕ) (work' : List ℕ) (promise : StepPromise work step_budget (Ok (Finished cells)) work') where
      finished_piece : (r : Filled) → r.written ≡ at → r.found ≡ count → r.left ≡ 1
          → (q' : ℕ) × Piece task places k size strand q₀ found₀ out₀ r out q' before work'
      finished_piece r ew ef el =
          let f = finished_next task q step_budget on.among cells (ruled (Ok (Finished cells)) work' promise).0 in
          let none : length (finals_after task q) ≡ 0 = ap length f.0 in
          let none_more : lines_in places k size strand (length out₀ - at) count (finals_after task q) ≡ 0 =
          ap (lines_in places k size strand (length out₀ - at) count) f.0 in (
            q + cells,
            record {
              onward = let o = on.onward in omega arith;
              among = omega (arith, f.1);
              counted = let c = on.counted in omega arith;
              words = (ruled (Ok (Finished cells)) work' promise).1;
              found_is = let l = on.lines in omega arith;
              ends =
                  inl
                  (record {
                    left_is = el;
                    had_room = omega arith;
                    all_passed = f.1;
                    all_found = let t = on.tally in omega arith;
                    bytes =
                        ap (λ (n : ℕ). take n out) ew
                        ∙ sym (append-nil (take at out))
                        ∙ ap (λ (l : List Mapping). take at out ++ mapping_lines places k size strand l) (sym f.0)
                        ∙ on.bytes;
                  });
            },
          )

    -- ---- no other answer

    not_other : (answer : Result Stepped Refusal) → Other answer → (work' : List ℕ) → StepPromise work step_budget answer work' → ⊥
    not_other (Ok (Found a b score m cells)) o work' promise = o
    not_other (Ok (Finished cells)) o work' promise = o
    not_other (Ok (Spent n)) o work' promise =
        let few : total task ≤ cell_limit = few_cells (hit_count task) limits.few_hits in
        never_spent task q step_budget on.among n (omega arith) (ruled (Ok (Spent n)) work' promise).0
    not_other (Err refusal) o work' promise = never_refused task q step_budget on.among _ (ruled (Err refusal) work' promise).0

  not_found : (a b : ℕ) (score : Score) (m cells : ℕ) (work' : List ℕ) → StepPromise work step_budget (Ok (Found a b score m cells)) work'
      → refused_words work₀ ≡ true → ⊥
  not_found a b score m cells work' promise e =
      let r = refused_now (Ok (Found a b score m cells)) work' promise e in
      let d : found (record { a = a; b = b; score = score; m = m }) cells ≡ refused r.0.0 = r.0.1 in
      let z : ◌≡◌ {A = ℕ} 0 1 = cc in
      omega arith

  not_finished : (cells : ℕ) (work' : List ℕ) → StepPromise work step_budget (Ok (Finished cells)) work' → refused_words work₀ ≡ true → ⊥
  not_finished cells work' promise e =
      let r = refused_now (Ok (Finished cells)) work' promise e in
      let d : finished cells ≡ refused r.0.0 = r.0.1 in
      let z : ◌≡◌ {A = ℕ} 0 1 = cc in
      omega arith

  pub going_found : (a b : ℕ) (score : Score) (m cells next : ℕ) (out' work' : List ℕ)
      → StepPromise work step_budget (Ok (Found a b score m cells)) work'
      → MappingWritten places k size strand a b score m at out out' next → count < found_limit → at < next
      → Going work₀ places k size strand found₀ out₀ out' work' next (count + 1)
  going_found a b score m cells next out' work' promise put few further = record {
    beyond = promise.beyond ∙ going.beyond;
    past = put.past inside ∙ drop_later at next out out₀ put.onward going.past;
    unmoved = λ e. absurd (not_found a b score m cells work' promise e);
    on = λ task before q₀ p. found_on_lem task before q₀ p a b score m cells work' promise next out' put few further;
  }

  -- ---- a turn that ends the piece

  module _ (number : length work ≡ length work₀) (r : Filled) where
    -- a mapping whose line is not written
    pub fills_stopped : (a b : ℕ) (score : Score) (m cells : ℕ) (work' : List ℕ) → StepPromise work step_budget (Ok (Found a b score m cells)) work'
        → is_printed places k size count (record { a = a; b = b; score = score; m = m }) ≡ false → (out' : List ℕ) → out' ≡ out
        → r.written ≡ at → r.found ≡ count → r.left ≡ 0 → Fills work₀ places k size strand found₀ out₀ r work' out'
    fills_stopped a b score m cells work' promise unprinted out' eo ew ef el =
        fills work₀ places k size strand found₀ out₀ out work at count going same number r work' out' promise.number
        promise.beyond (ap length eo)
        (omega arith) (omega arith) (ap (drop r.written) eo) (omega arith) (λ e. absurd (not_found a b score m cells work' promise e))
        (λ task before q₀ p. stuck_piece task before q₀ p a b score m cells work' promise unprinted out' eo r ew ef el)

    pub fills_finished : (cells : ℕ) (work' : List ℕ) → StepPromise work step_budget (Ok (Finished cells)) work'
        → r.written ≡ at → r.found ≡ count → r.left ≡ 1 → Fills work₀ places k size strand found₀ out₀ r work' out
    fills_finished cells work' promise ew ef el =
        fills work₀ places k size strand found₀ out₀ out work at count going same number r work' out promise.number
        promise.beyond refl (omega arith)
        (omega arith) refl (omega arith) (λ e. absurd (not_finished cells work' promise e))
        (λ task before q₀ p. finished_piece task before q₀ p cells work' promise r ew ef el)

    pub fills_other : (answer : Result Stepped Refusal) → Other answer → (work' : List ℕ) → StepPromise work step_budget answer work'
        → r.written ≡ at → r.found ≡ count
        → r.left ≡ 0 → Fills work₀ places k size strand found₀ out₀ r work' out
    fills_other answer other work' promise ew ef el =
        fills work₀ places k size strand found₀ out₀ out work at count going same number r work' out promise.number
        promise.beyond refl (omega arith)
        (omega arith) refl (omega arith) unmoved (λ task before q₀ p. absurd (not_other task before q₀ p answer other work' promise))
      where
        unmoved : refused_words work₀ ≡ true → Unmoved work₀ found₀ out₀ r work' out
        unmoved e =
            let u = going.unmoved e in
            record {
              none_written = ew ∙ u.0;
              same_found = ef ∙ u.1;
              left_is = rw (le-ltb (length out₀) line_room (omega arith)) el;
              same_work = (refused_now answer work' promise e).1 ∙ u.2;
              same_out = u.3;
            }

-- ---- no room for a line

pub session_left : (task : Task) (before : List ℕ) (q : ℕ) (work : List ℕ) → Accepts task before → q ≤ total task
    → work ≡ session_words task before q
    → cells_left work ≡ suc (total task - q)
unfolding cells_left
session_left task before q work a l e =
    let s = in_session task before q work a e in
    rw (
      s.held.held.h_word,
      s.held.passed_word,
      le-ltb (length work) work_words s.number,
      le-ltb hit_limit (hit_count task) s.limits.few_hits,
      le-ltb (total task) q l,
    )

module _ (work₀ places : List ℕ) (k size : ℕ) (strand : Strand) (found₀ : ℕ) (out₀ out work : List ℕ) (at count : ℕ)
    (going : Going work₀ places k size strand found₀ out₀ out work at count) (none : length out - at < line_room)
    (same : length out ≡ length out₀) (r : Filled)
    (ew : r.written ≡ at) (ef : r.found ≡ count) (el : r.left ≡ cells_left work) where
  full_piece : (task : Task) (before : List ℕ) (q₀ : ℕ) → InPiece task before work₀ q₀
      → (q' : ℕ) × Piece task places k size strand q₀ found₀ out₀ r out q' before work
  full_piece task before q₀ p =
      let q = (going.on task before q₀ p).0 in
      let on = (going.on task before q₀ p).1 in
      let left : r.left ≡ suc (total task - q) = el ∙ session_left task before q work p.accepts on.among on.words in
      let none_more : lines_in places k size strand (length out₀ - at) count (finals_after task q) ≡ 0 =
      lines_none places k size strand (length out₀ - at) count (finals_after task q) (omega arith) in (
        q,
        record {
          onward = on.onward;
          among = on.among;
          counted = let c = on.counted in omega arith;
          words = on.words;
          found_is = let l = on.lines in omega arith;
          ends =
              inr
              (inl
              (record {
                left_is = left;
                no_room = omega arith;
                place = sym (ap (passed_for task q) none_more) ∙ on.place;
                further = λ h. on.moved (omega arith);
                tally = rw ef on.tally;
                bytes = rw ew on.bytes;
              }));
        },
      )

  full_unmoved : refused_words work₀ ≡ true → Unmoved work₀ found₀ out₀ r work out
  full_unmoved e =
      let u = going.unmoved e in
      let short : length out₀ < line_room = omega (arith, u.0) in
      record {
        none_written = ew ∙ u.0;
        same_found = ef ∙ u.1;
        left_is = rw (lt-ltb (length out₀) line_room short) (el ∙ ap cells_left u.2);
        same_work = u.2;
        same_out = u.3;
      }

  pub fills_full : length work ≡ length work₀ → at ≤ length out → Fills work₀ places k size strand found₀ out₀ r work out
  fills_full number inside =
      let few : cells_left work ≤ suc cell_limit = left_few work in
      fills work₀ places k size strand found₀ out₀ out work at count going same number r work out refl refl refl (omega arith) (omega arith) refl
      (omega arith) full_unmoved full_piece
