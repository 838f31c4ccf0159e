-- A walk in the words of a session answers as the rule does, and leaves the words of the session further on.
use Prim.Native.Nat.{ℕ, zero, suc, ◌+◌, ◌-◌, ◌%◌, ◌≤◌, ◌<◌, min, zero-le, suc-le-suc}
use native.Mathlib.Nat.{mod-eq_of_lt}
use native.Mathlib.Omega.{arith}
use mathlib.Core.Path.{◌≡◌, refl, sym, ap, ◌∙◌, subst}
use mathlib.Core.Logic.{◌⊎◌, inl, inr}
use mathlib.Core.Bool.{Bool, true, false}
use mathlib.Core.List.{List}
use lib.Dec.{ltb}
use lib.ListN.{length, get_or}
use borrow.Author.Tests.{ne_eqb, ltb-true, ltb-false}
use Rattle.base.specs.Limits.{hit_limit, work_words, word_limit}
use Rattle.base.proofs.Lists.{eq_or_ne}
use Rattle.mappings.specs.Score.{Task, ThresholdFits, score_of, shared_of}
use Rattle.mappings.specs.Cells.{hits, hit_count, cell_count, mapping_of, left_end, right_end}
use Rattle.mappings.specs.FinalTest.{is_final_cell}
use Rattle.mappings.specs.HitCodes.{hit_codes}
use Rattle.mappings.specs.Places.{place}
use Rattle.mappings.specs.Rule.{found, finished, spent, reported, rule_answer}
use Rattle.mappings.specs.Steps.{more_cells}
use Rattle.mappings.proofs.Cells.{cell_at, cell_count_mono, place_row, place_column, place_last, place_within}
use Rattle.mappings.proofs.HitCodes.{cell_shared}
use Rattle.mappings.proofs.Range.{Limited}
use Rattle.mappings.proofs.Rule.{rule_no_budget, rule_none_left, more_cells_lem}
use Rattle.session_words.specs.FirstWords.{passed_at}
use Rattle.session_words.specs.Layout.{threshold_at, index_from, starts_from}
use Rattle.session_records.specs.Records.{highest_before}
use Rattle.session_records.proofs.Highest.{before_none}
use Rattle.session_start.specs.Tables.{start_of}
use Rattle.session_start.specs.WorkWords.{order_of, best_after, columns_left, next_row, next_shared, highest_after, session_words}
use Rattle.session_start.proofs.WorkWords.{HoldsTables, task_order, hold_words}
use Rattle.session_cells.specs.Passing.{Update}
use Rattle.session_cells.specs.declared.cells.Passed.{Passed}
use Rattle.session_rule.specs.Lines.{session_line, shared_at}
use Rattle.session_rule.proofs.Knowing.{least}
use Rattle.session_rule.proofs.CellTests.{shared_few}
use Rattle.session_rule.proofs.Chunk.{PartHolds, SameOutside, Known, At, Chunk, all_passed, one_found, more_none}
use Rattle.session_rule.proofs.Skipping.{place_further}
use Rattle.session_rule.proofs.Passing.{rows_chunk, blocks_chunk}
use Rattle.mapper.specs.Walking.{Place}
use Rattle.mapper.specs.declared.answer.Stepped.{Stepped}
use Rattle.mapper.specs.declared.answer.Stepped.TheVariants.{Found}
use Rattle.mapper.specs.Deciding.{decided}
use Rattle.mapper.specs.Answers.{stepped_answer}
use Rattle.mapper.specs.Walking.{place_of, place_in, saved, left_words, settled_words, settled, line_of, part_of, with_part, column_update, cell_update}
use Rattle.mapper.specs.Walking.{Walk, spent_walk, finished_walk, found_walk, walk_on, one_walk}
use Rattle.mapper.proofs.Decided.{terms_of, final_decided}
use Rattle.mapper.proofs.Places.{at_cell, at_end}
use Rattle.mapper.proofs.SessionWords.{tables_part, part_tables, passed_back, left_tables, passed_left, place_saved}
use Rattle.mapper.proofs.Walking.{settled_in, words_in, settled_next, words_next, walk_spent, walk_found, walk_part, walk_next}
use Rattle.mapper.proofs.Walking.{one_found as one-walk-found, one_spent as one-walk-spent}

-- the place after q cells: behind the last column, or a cell of the last column left with its m and what the rows before it have seen
abbrev pub PlaceAt : Task → ℕ → ℕ → ℕ → ℕ → ℕ → Type 0
PlaceAt task q zero row m highest = (q ≡ cell_count (hit_count task)) × (row ≡ 0) × (m ≡ 0) × (highest ≡ least task)
PlaceAt task q (suc j) row m highest =
    (j < hit_count task) × (row ≤ j) × (place (hit_count task) row j ≡ q) × (m ≡ shared_at task row j)
    × (highest ≡ highest_before (order_of task) (least task) (best_after task q) row)

-- a place by its record
abbrev pub IsPlace : Task → ℕ → Place → Type 0
IsPlace task q p = PlaceAt task q p.columns p.row p.m p.highest

-- as the words of a place say it
pub record PlaceWords (task : Task) (q columns row m highest : ℕ) : Type 0 where
  pub columns_are : columns ≡ columns_left (hit_count task) q
  pub row_is : row ≡ next_row (hit_count task) q
  pub shared_is : m ≡ next_shared task (columns_left (hit_count task) q) (next_row (hit_count task) q)
  pub highest_is : highest ≡ highest_after task q

place_words : (task : Task) (q columns row m highest : ℕ) → PlaceAt task q columns row m highest → PlaceWords task q columns row m highest
unfolding highest_after
place_words task q zero row m highest (e, er, em, eh) =
    let at = at_end (hit_count task) in
    let r : next_row (hit_count task) q ≡ 0 = ap (next_row (hit_count task)) e ∙ at.row_is in
    record {
      columns_are = sym (ap (columns_left (hit_count task)) e ∙ at.columns_are);
      row_is = er ∙ sym r;
      shared_is = em ∙ ap (λ (n : ℕ). next_shared task n (next_row (hit_count task) q)) (sym (ap (columns_left (hit_count task)) e ∙ at.columns_are));
      highest_is = eh ∙ rw r (sym (before_none (order_of task) (task_order task) (least task) (best_after task q)));
    }
place_words task q (suc j) row m highest (l, a, e, em, eh) =
    let at = at_cell (hit_count task) row j a l in
    let c : columns_left (hit_count task) q ≡ suc j = ap (columns_left (hit_count task)) (sym e) ∙ at.columns_are in
    let r : next_row (hit_count task) q ≡ row = ap (next_row (hit_count task)) (sym e) ∙ at.row_is in
    record {
      columns_are = sym c;
      row_is = sym r;
      shared_is = rw (c, r) (em ∙ sym (cell_shared task row j a l));
      highest_is = rw r eh;
    }

-- what is said of column j, said of the last of so many columns
of_last : {A : Type 0} (f : ℕ → A) (j : ℕ) → f j ≡ f (suc j - 1)
of_last f j = let e : j ≡ suc j - 1 = omega arith in ap f e

-- of the budget, n more cells are passed
less_passed : (left row n at : ℕ) → at ≡ row + n → left - (at - row) ≡ left - n
less_passed left row n at e = omega arith

rest_of : (left n rest : ℕ) → rest ≡ left - n → n ≤ left → left ≡ n + rest
rest_of left n rest e a = omega arith

suc_right : (row k : ℕ) → row + suc k ≡ suc (row + k)
suc_right row k = omega arith

few_of : (k left n : ℕ) → suc k ≤ min left n → suc k ≤ left
few_of k left n h = omega arith

still_few : (left n rest budget : ℕ) → rest ≡ left - n → left ≤ budget → rest ≤ budget
still_few left n rest budget e a = omega arith

-- where the column goes on, the budget ends
all_of : (left j row at : ℕ) → at ≡ row + min left (suc j - row) → at < suc j → min left (suc j - row) ≡ left
all_of left j row at e l = omega arith

more_passed : (budget left n rest : ℕ) → rest ≡ left - n → n ≤ left → left ≤ budget → budget - rest ≡ budget - left + n
more_passed budget left n rest e a b = omega arith

passed_from : (q₀ budget left n rest q : ℕ) → rest ≡ left - n → n ≤ left → left ≤ budget → q₀ + (budget - left) ≡ q
    → q₀ + (budget - rest) ≡ q + n
passed_from q₀ budget left n rest q e a b f = omega arith

module _ (task : Task) (limited : Limited task) (threshold_fits : ThresholdFits task.scoring) (small : hit_count task ≤ hit_limit) (before : List ℕ)
    (many : work_words ≤ length before) where
  -- the number of cells is far below 2^32
  few_cells : (q : ℕ) → q ≤ cell_count (hit_count task) → q < word_limit
  unfolding cell_count
  few_cells q l = let m : cell_count (hit_count task) ≤ cell_count hit_limit = cell_count_mono (hit_count task) hit_limit small in omega arith

  -- the line of a column, read from the words
  line_is : (q n j : ℕ) (work : List ℕ) → j < hit_count task → HoldsTables task before q n work → line_of work (terms_of task) j ≡ session_line task j
  unfolding line_of
  line_is q n j work l h = rw (h.index_word j l, h.back_word j l)

  -- ---- where the place settles

  -- behind the last row of a column: the next one's first cell, or the end
  next_column : (q j m highest : ℕ) → j < hit_count task → place (hit_count task) (suc j) j ≡ q → m ≡ start_of task.pattern (hit_codes task) j 0
      → highest ≡ least task → PlaceAt task q j 0 m highest
  next_column q zero m highest l e em eh = (sym e ∙ place_row (hit_count task) 0 0 ∙ place_last (hit_count task) l, refl, em, eh)
  next_column q (suc j) m highest l e em eh = (
    omega arith,
    zero-le,
    place_column (hit_count task) j l ∙ sym (place_row (hit_count task) (suc j) (suc j)) ∙ e,
    em,
    eh ∙ sym (before_none (order_of task) (task_order task) (least task) (best_after task q)),
  )

  -- a place, and the words with the tables of its columns
  pub record Settled (q : ℕ) (p : Place) (words : List ℕ) : Type 0 where
    pub at : IsPlace task q p
    pub tables : HoldsTables task before q p.columns words

  pub settles : (q j r : ℕ) (words : List ℕ) (p : Passed) → HoldsTables task before q (suc j) words → j < hit_count task → p.row ≡ r → r ≤ suc j
      → place (hit_count task) r j ≡ q → Known task j r q p.m p.highest
      → Settled q (settled words (suc j) p) (settled_words words (suc j) p)
  settles q j r words p h l er inside e known = go (ltb p.row (suc j)) refl
    where
      go : (b : Bool) → ltb p.row (suc j) ≡ b → Settled q (settled words (suc j) p) (settled_words words (suc j) p)
      go true t =
          let c : p.row < suc j = ltb-true p.row (suc j) t in
          let a : r ≤ j = omega arith in
          rw (settled_in words (suc j) p c, words_in words (suc j) p c)
          (record {
            at = (
              l,
              omega arith,
              ap (λ (k : ℕ). place (hit_count task) k j) er ∙ e,
              (known a).0 ∙ ap (λ (k : ℕ). shared_at task k j) (sym er),
              (known a).1 ∙ ap (highest_before (order_of task) (least task) (best_after task q)) (sym er),
            );
            tables = h;
          })
      go false t =
          let c : suc j ≤ p.row = ltb-false p.row (suc j) t in
          let last : r ≡ suc j = omega arith in
          let one_less : suc j - 1 ≡ j = omega arith in
          let left = left_tables task small before many q j words h limited l in
          rw (settled_next words (suc j) p c, words_next words (suc j) p c, one_less)
          (record {
            at =
                next_column q j (get_or (left_words words (suc j)) starts_from 0) (get_or (left_words words (suc j)) threshold_at 0) l
                (ap (λ (k : ℕ). place (hit_count task) k j) (sym last) ∙ e) (left.starts_word 0 zero-le) left.threshold_word;
            tables = left;
          })

  -- the cells passed since start stay
  passed_settled : (q j : ℕ) (words : List ℕ) (p : Passed) → HoldsTables task before q (suc j) words → j < hit_count task
      → get_or (settled_words words (suc j) p) passed_at 0 ≡ get_or words passed_at 0
  passed_settled q j words p h l = go (ltb p.row (suc j)) refl
    where
      go : (b : Bool) → ltb p.row (suc j) ≡ b → get_or (settled_words words (suc j) p) passed_at 0 ≡ get_or words passed_at 0
      go true t = rw (words_in words (suc j) p (ltb-true p.row (suc j) t))
      go false t = rw (words_next words (suc j) p (ltb-false p.row (suc j) t)) (passed_left task small before many q j words h limited l)

  -- the words with the place of q saved are those of the session after q cells
  saved_is : (q cells : ℕ) (work : List ℕ) (p : Place) → Settled q p work → q ≤ cell_count (hit_count task) → get_or work passed_at 0 + cells ≡ q
      → saved work p cells ≡ session_words task before q
  saved_is q cells work p s l e =
      let w = place_words task q p.columns p.row p.m p.highest s.at in
      hold_words task before q small many (saved work p cells)
      (place_saved task small before many q p.columns work s.tables p cells (few_cells q l) e w.columns_are w.columns_are w.row_is
      w.shared_is w.highest_is)

  module _ (q₀ budget : ℕ) where
    -- a walk with this much left answers as the rule from q on, with what it passed before added
    pub record Ruled (q left : ℕ) (walk : Walk) : Type 0 where
      pub answer_is : stepped_answer walk.answer ≡ more_cells (budget - left) (rule_answer task q left)
      pub words_are : walk.words ≡ session_words task before (q₀ + reported (stepped_answer walk.answer))

    no_column : (q row m highest left : ℕ) (work : List ℕ) → Settled q (place_of 0 row m highest) work → get_or work passed_at 0 ≡ q₀
        → q₀ + (budget - left) ≡ q → Ruled q left (finished_walk work (place_of 0 row m highest) (budget - left))
    unfolding finished_walk
    no_column q row m highest left work s e₀ e =
        let none : rule_answer task q left ≡ finished 0 = rule_none_left task q left s.at.0 in
        let z : budget - left ≡ budget - left + 0 = omega arith in
        record {
          answer_is = ap finished z ∙ sym (ap (more_cells (budget - left)) none);
          words_are =
              saved_is q (budget - left) work (place_of 0 row m highest) s (omega (arith, s.at.0)) (rw e₀ e)
              ∙ ap (session_words task before) (sym e);
        }

    -- the budget ends at a cell
    at_budget : (q j row m highest cells : ℕ) (work : List ℕ) → Settled q (place_of (suc j) row m highest) work → get_or work passed_at 0 ≡ q₀
        → q₀ + cells ≡ q
        → (stepped_answer (spent_walk work (place_of (suc j) row m highest) cells).answer ≡ more_cells cells (rule_answer task q 0))
        × ((spent_walk work (place_of (suc j) row m highest) cells).words ≡ session_words task before (q₀ + cells))
    unfolding spent_walk
    at_budget q j row m highest cells work s e₀ e =
        let at = s.at in
        let inside : place (hit_count task) row j < cell_count (hit_count task) = place_within (hit_count task) row j at.1 at.0 in
        let l : q < cell_count (hit_count task) = subst (λ (n : ℕ). n < cell_count (hit_count task)) at.2 inside in
        let none : rule_answer task q 0 ≡ spent 0 = rule_no_budget task q ∙ rw (ne_eqb q (cell_count (hit_count task)) (λ f. omega arith)) in
        let z : cells ≡ cells + 0 = omega arith in (
          ap spent z ∙ sym (ap (more_cells cells) none),
          saved_is q cells work (place_of (suc j) row m highest) s (omega arith) (rw e₀ e) ∙ ap (session_words task before) (sym e),
        )

    -- so does a walk that began at q and passed the cells up to there
    spent_ruled : (q left q' passed j row m highest cells : ℕ) (work : List ℕ) → Settled q' (place_of (suc j) row m highest) work
        → get_or work passed_at 0 ≡ q₀
        → q₀ + cells ≡ q' → rule_answer task q left ≡ more_cells passed (rule_answer task q' 0)
        → cells ≡ budget - left + passed → Ruled q left (spent_walk work (place_of (suc j) row m highest) cells)
    unfolding spent_walk
    spent_ruled q left q' passed j row m highest cells work s e₀ e rule count =
        let b = at_budget q' j row m highest cells work s e₀ e in
        record {
          answer_is =
              b.0
              ∙ ap (λ (k : ℕ). more_cells k (rule_answer task q' 0)) count
              ∙ sym (more_cells_lem (budget - left) passed (rule_answer task q' 0))
              ∙ ap (more_cells (budget - left)) (sym rule);
          words_are = b.1;
        }

    -- a final cell of the column, and the place behind it
    at_final : (q j row k left cells : ℕ) (words : List ℕ) (p : Passed) (behind : Place) → Settled (q + suc k) behind words
        → get_or words passed_at 0 ≡ q₀ → q₀ + cells ≡ q + suc k → cells ≡ budget - left + suc k → suc k ≤ left
        → j < hit_count task → row + k ≤ j → place (hit_count task) row j ≡ q
        → p.row ≡ suc (row + k) → p.m + 1 ≡ shared_at task (row + k) j → is_final_cell task (cell_at (row + k) j) ≡ true
        → ((B : ℕ) → rule_answer task q (suc k + B) ≡ found (mapping_of task (cell_at (row + k) j)) (suc k))
        → Ruled q left (found_walk (terms_of task) words (suc j) p behind cells)
    unfolding found_walk mapping_of left_end right_end
    at_final q j row k left cells words p behind s e₀ e count spends l inside at er em final rule =
        let h = s.tables in
        let whole_budget : left ≡ suc k + (left - suc k) = omega arith in
        let answer : rule_answer task q left ≡ found (mapping_of task (cell_at (row + k) j)) (suc k) =
        ap (rule_answer task q) whole_budget ∙ rule (left - suc k) in
        let left_end : get_or words (index_from + p.row - 1) 0 ≡ get_or (hits task) (row + k) 0 =
        (let f : index_from + suc (row + k) - 1 ≡ index_from + (row + k) = omega arith in ap (λ (n : ℕ). get_or words (index_from + n - 1) 0) er
        ∙ ap (λ (n : ℕ). get_or words n 0) f ∙ h.index_word (row + k) (omega arith))
        in
        let right_end : get_or words (index_from + suc j - 1) 0 ≡ get_or (hits task) j 0 =
        (let f : index_from + suc j - 1 ≡ index_from + j = omega arith in ap (λ (n : ℕ). get_or words n 0) f ∙ h.index_word j l)
        in
        let few : shared_at task (row + k) j < word_limit = omega (arith, shared_few task limited (row + k) j inside l, limited.short_pattern) in
        let m_is : (p.m + 1) % word_limit ≡ shared_at task (row + k) j = ap (λ (n : ℕ). n % word_limit) em ∙ mod-eq_of_lt few in
        let shares : shared_at task (row + k) j ≡ shared_of task (get_or (hits task) (row + k) 0) (get_or (hits task) j 0) =
        sym (cell_shared task (row + k) j inside l) in
        let decides : decided (terms_of task) (get_or words (index_from + p.row - 1) 0) (get_or words (index_from + suc j - 1) 0) ((p.m + 1) % word_limit) cells
        ≡ Found (get_or (hits task) (row + k) 0) (get_or (hits task) j 0) (score_of task (get_or (hits task) (row + k) 0) (get_or (hits task) j 0))
        (shared_at task (row + k) j) cells =
        rw (left_end, right_end, m_is) (final_decided task limited (row + k) j inside l final cells)
        in
        let within : place (hit_count task) (row + k) j < cell_count (hit_count task) = place_within (hit_count task) (row + k) j inside l in
        let here : place (hit_count task) (row + k) j ≡ q + k = place_further (hit_count task) row k j q at in
        record {
          answer_is = ap stepped_answer decides ∙ rw (shares, count, answer);
          words_are =
              saved_is (q + suc k) cells words behind s (omega arith) (rw e₀ e)
              ∙ ap (session_words task before) (sym e ∙ ap (λ (answer : Stepped). q₀ + reported (stepped_answer answer)) (sym decides));
        }

    -- ---- the update of a column in the words of a session

    module _ (q j row m highest : ℕ) (work : List ℕ) (s : Settled q (place_of (suc j) row m highest) work) where
      abbrev h : HoldsTables task before q (suc j) work
      h = s.tables

      abbrev in_column : j < hit_count task
      in_column = s.at.0

      starts_at : At task j row q m highest (part_of work)
      starts_at = record {
        place_is = s.at.2;
        known = λ c. (s.at.3, s.at.4);
        holds = tables_part task small before many q j work h;
      }

      column_chunk : (left : ℕ) → Chunk task j row (min left (suc j - row)) q (part_of work) (column_update (terms_of task) j row m highest left work)
      unfolding column_update
      column_chunk left =
          let n = min left (suc j - row) in
          let e : row + min left (suc j - row) - row ≡ min left (suc j - row) = omega arith in
          rw (line_is q (suc j) j work in_column h)
          (rw e at (blocks_chunk task limited threshold_fits small j in_column n (row + n) row q m highest (part_of work) (omega arith)
          (omega (arith, s.at.1)) (omega arith) starts_at))

      cell_chunk : Chunk task j row 1 q (part_of work) (cell_update (terms_of task) j row m highest work)
      unfolding cell_update
      cell_chunk =
          rw (line_is q (suc j) j work in_column h)
          (rows_chunk task limited threshold_fits small j in_column 1 row q m highest (part_of work) (omega (arith, s.at.1)) starts_at)

    -- ---- a walk

    -- the other cells of the column are passed, and the budget ends there or the next column begins
    pub walk_rule : (columns q row m highest left : ℕ) (work : List ℕ) → Settled q (place_of columns row m highest) work → get_or work passed_at 0 ≡ q₀
        → q₀ + (budget - left) ≡ q → left ≤ budget → Ruled q left (walk_on (terms_of task) budget columns row m highest left work)
    walk_rule zero q row m highest left work s e₀ e fits = no_column q row m highest left work s e₀ e
    walk_rule (suc j) q row m highest left work s e₀ e fits =
        go (eq_or_ne left 0) (column_chunk q j row m highest work s left)
        (λ q' row' m' highest' left' work'. walk_rule j q' row' m' highest' left' work')
      where
        update : Update
        update = column_update (terms_of task) j row m highest left work

        words : List ℕ
        words = with_part work update.part

        rest : ℕ
        rest = left - (update.answer.row - row)

        by : {one other : Walk} → one ≡ other → Ruled q left other → Ruled q left one
        by {one} {other} e r = subst (Ruled q left) (sym e) r

        same_answer : update.answer ≡ (column_update (terms_of task) (suc j - 1) row m highest left work).answer
        same_answer = of_last (λ (i : ℕ). (column_update (terms_of task) i row m highest left work).answer) j

        same_words : words ≡ with_part work (column_update (terms_of task) (suc j - 1) row m highest left work).part
        same_words = of_last (λ (i : ℕ). with_part work (column_update (terms_of task) i row m highest left work).part) j

        -- the walk from the next column on
        Later : Type 0
        Later =
            (q' row' m' highest' left' : ℕ) (work' : List ℕ) → Settled q' (place_of j row' m' highest') work'
            → get_or work' passed_at 0 ≡ q₀ → q₀ + (budget - left') ≡ q' → left' ≤ budget
            → Ruled q' left' (walk_on (terms_of task) budget j row' m' highest' left' work')

        -- the words with the part back
        back_in : (q' : ℕ) → PartHolds task j q' update.part → SameOutside task (part_of work) update.part
            → HoldsTables task before q' (suc j) words × (get_or words passed_at 0 ≡ q₀)
        back_in q' p same = (
          part_tables task small before many q j work s.tables q' update.part p same,
          passed_back task small before many q j work s.tables q' update.part p same ∙ e₀,
        )

        go : (left ≡ 0) ⊎ (left ≡ 0 → ⊥) → Chunk task j row (min left (suc j - row)) q (part_of work) update → Later
            → Ruled q left (walk_on (terms_of task) budget (suc j) row m highest left work)
        go (inl z) c later =
            by (walk_spent (terms_of task) budget (suc j) row m highest left work (suc-le-suc zero-le) z)
            (spent_ruled q left q 0 j row m highest budget work s e₀ (omega arith) (rw z (sym (more_none (rule_answer task q 0)))) (omega arith))
        go (inr n) (one_found k within f r em final known p same rule) later =
            let inside : row + k ≤ j = omega (arith, s.at.1) in
            let b = back_in (q + suc k) p same in
            let some : suc k ≤ left = few_of k left (suc j - row) within in
            let now_left : rest ≡ left - suc k = less_passed left row (suc k) update.answer.row (r ∙ sym (suc_right row k)) in
            let cells : budget - rest ≡ budget - left + suc k = more_passed budget left (suc k) rest now_left some fits in
            let further : place (hit_count task) (suc (row + k)) j ≡ q + suc k =
            rw (suc_right row k) at (place_further (hit_count task) row (suc k) j q s.at.2) in
            let behind = settles (q + suc k) j (suc (row + k)) words update.answer b.0 s.at.0 r (omega arith) further known in
            by (walk_found (terms_of task) budget (suc j) row m highest left work (suc-le-suc zero-le) n update.answer words same_answer same_words f)
            (at_final q j row k left (budget - rest) (settled_words words (suc j) update.answer) update.answer
            (settled words (suc j) update.answer) behind (passed_settled (q + suc k) j words update.answer b.0 s.at.0 ∙ b.1)
            (passed_from q₀ budget left (suc k) rest q now_left some fits e) cells some s.at.0 inside s.at.2 r em final rule)
        go (inr n) (all_passed f r known p same rule) later = ends (ltb update.answer.row (suc j)) refl
          where
            passed : ℕ
            passed = min left (suc j - row)

            rest_is : rest ≡ left - passed
            rest_is = less_passed left row passed update.answer.row r

            few : passed ≤ left
            few = omega arith

            counted : q₀ + (budget - rest) ≡ q + passed
            counted = passed_from q₀ budget left passed rest q rest_is few fits e

            held : HoldsTables task before (q + passed) (suc j) words × (get_or words passed_at 0 ≡ q₀)
            held = back_in (q + passed) p same

            behind : Settled (q + passed) (settled words (suc j) update.answer) (settled_words words (suc j) update.answer)
            behind =
                settles (q + passed) j (row + passed) words update.answer held.0 s.at.0 r (omega (arith, s.at.1))
                (place_further (hit_count task) row passed j q s.at.2) known

            ends : (b : Bool) → ltb update.answer.row (suc j) ≡ b → Ruled q left (walk_on (terms_of task) budget (suc j) row m highest left work)
            ends true t =
                let l : update.answer.row < suc j = ltb-true update.answer.row (suc j) t in
                let all : passed ≡ left = all_of left j row update.answer.row r l in
                let here : Settled (q + passed) (place_in (suc j) update.answer) words =
                rw (settled_in words (suc j) update.answer l, words_in words (suc j) update.answer l) at behind in
                by (walk_part (terms_of task) budget (suc j) row m highest left work (suc-le-suc zero-le) n update.answer words same_answer same_words f l)
                (spent_ruled q left (q + passed) passed j update.answer.row update.answer.m update.answer.highest (budget - rest) words here
                held.1 counted
                (let z : left ≡ passed + 0 = omega arith in ap (rule_answer task q) z ∙ rule 0) (more_passed budget left passed rest rest_is few fits))
            ends false t =
                let l : suc j ≤ update.answer.row = ltb-false update.answer.row (suc j) t in
                let place' = settled words (suc j) update.answer in
                let one_less : suc j - 1 ≡ j = omega arith in
                let columns_are : (settled words (suc j) update.answer).columns ≡ j =
                ap (λ (x : Place). x.columns) (settled_next words (suc j) update.answer l) ∙ one_less in
                let next : Settled (q + passed) (place_of j place'.row place'.m place'.highest) (settled_words words (suc j) update.answer) =
                subst (λ (n : ℕ). Settled (q + passed) (place_of n place'.row place'.m place'.highest)
                (settled_words words (suc j) update.answer)) columns_are behind in
                let rec =
                later (q + passed) place'.row place'.m place'.highest rest (settled_words words (suc j) update.answer) next
                (passed_settled (q + passed) j words update.answer held.0 s.at.0 ∙ held.1) counted
                (still_few left passed rest budget rest_is fits) in
                let whole_budget : left ≡ passed + rest = rest_of left passed rest rest_is few in
                let count : budget - rest ≡ budget - left + passed = more_passed budget left passed rest rest_is few fits in
                by (walk_next (terms_of task) budget (suc j) row m highest left work (suc-le-suc zero-le) n update.answer words same_answer same_words f l)
                (rw one_less
                (record {
                  answer_is =
                      rec.answer_is
                      ∙ ap (λ (k : ℕ). more_cells k (rule_answer task (q + passed) rest)) count
                      ∙ sym (more_cells_lem (budget - left) passed (rule_answer task (q + passed) rest))
                      ∙ ap (more_cells (budget - left)) (sym (ap (rule_answer task q) whole_budget ∙ rule rest));
                  words_are = rec.words_are;
                }))

    -- one cell, in a column that has a further row
    pub one_rule : (columns q row m highest : ℕ) (work : List ℕ) → Settled q (place_of columns row m highest) work → get_or work passed_at 0 ≡ q₀
        → budget ≡ 1 → row + 1 < columns → q₀ ≡ q → Ruled q budget (one_walk (terms_of task) columns row m highest work)
    one_rule zero q row m highest work s e₀ eb inside e = absurd (omega arith)
    one_rule (suc j) q row m highest work s e₀ eb inside e = go (cell_chunk q j row m highest work s)
      where
        update : Update
        update = cell_update (terms_of task) j row m highest work

        words : List ℕ
        words = with_part work update.part

        same_answer : update.answer ≡ (cell_update (terms_of task) (suc j - 1) row m highest work).answer
        same_answer = of_last (λ (i : ℕ). (cell_update (terms_of task) i row m highest work).answer) j

        same_words : words ≡ with_part work (cell_update (terms_of task) (suc j - 1) row m highest work).part
        same_words = of_last (λ (i : ℕ). with_part work (cell_update (terms_of task) i row m highest work).part) j

        -- the place behind the cell, and the words with the part back
        behind : PartHolds task j (q + 1) update.part → SameOutside task (part_of work) update.part → update.answer.row ≡ row + 1
            → Known task j (row + 1) (q + 1) update.answer.m update.answer.highest
            → Settled (q + 1) (place_in (suc j) update.answer) words × (get_or words passed_at 0 ≡ q₀)
        behind p same r known =
            let t : update.answer.row < suc j = omega arith in
            let h = part_tables task small before many q j work s.tables (q + 1) update.part p same in
            let b =
            settles (q + 1) j (row + 1) words update.answer h s.at.0 r (omega arith) (place_further (hit_count task) row 1 j q s.at.2) known in (
              rw (settled_in words (suc j) update.answer t, words_in words (suc j) update.answer t) at b,
              passed_back task small before many q j work s.tables (q + 1) update.part p same ∙ e₀,
            )

        go : Chunk task j row 1 q (part_of work) update → Ruled q budget (one_walk (terms_of task) (suc j) row m highest work)
        go (one_found k within f r em final known p same rule) =
            let next : suc (row + k) ≡ row + 1 = omega arith in
            let more : q + suc k ≡ q + 1 = omega arith in
            let b = behind (rw more at p) same (r ∙ next) (rw (next, more) at known) in
            subst (Ruled q budget)
            (sym (one-walk-found (terms_of task) (suc j) row m highest work update.answer words inside same_answer same_words f))
            (at_final q j row k budget 1 words update.answer (place_in (suc j) update.answer) (rw more b.0) b.1 (omega arith)
            (omega arith) (omega arith) s.at.0 (omega arith) s.at.2 r em final rule)
        go (all_passed f r known p same rule) =
            let b = behind p same r known in
            subst (Ruled q budget)
            (sym (one-walk-spent (terms_of task) (suc j) row m highest work update.answer words inside same_answer same_words f))
            (spent_ruled q budget (q + 1) 1 j update.answer.row update.answer.m update.answer.highest 1 words b.0 b.1 (omega arith)
            (rw eb (rule 0)) (omega arith))
