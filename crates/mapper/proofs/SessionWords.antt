-- A walk in the words of a session: the part that a column is lent holds its tables, and so do the words when the part is back, when the
-- column is left and when the place is saved.
use Prim.Native.Nat.{ℕ, suc, ◌+◌, ◌-◌, ◌*◌, ◌%◌, ◌≤◌, ◌<◌}
use native.Mathlib.Nat.{mod-eq_of_lt}
use native.Mathlib.Omega.{arith}
use mathlib.Core.Path.{◌≡◌, refl, sym, ap, ◌∙◌}
use mathlib.Core.Logic.{◌⊎◌, inl, inr}
use mathlib.Core.Bool.{Bool, true, false, cond, ◌&&◌}
use mathlib.Core.List.{List}
use lib.Dec.{leb, ltb}
use lib.ListN.{length, get_or, set, length-set}
use lib.Seq.{get_or-set_same, get_or-set_other}
use borrow.Author.Tests.{ltb-true, ltb-false, lt-leb}
use Rattle.base.specs.Limits.{hit_limit, work_words, word_limit}
use Rattle.mappings.specs.Score.{Task}
use Rattle.mappings.specs.Cells.{hit_count}
use Rattle.mappings.specs.HitCodes.{hit_codes}
use Rattle.mappings.proofs.Range.{Limited}
use Rattle.session_words.specs.FirstWords.{hits_at, u_at, v_at, passed_at, kind_at}
use Rattle.session_words.specs.Layout.{size_at, threshold_at, columns_at, row_at, m_at, highest_at, back_from, index_from, reach_from, best_from}
use Rattle.session_words.specs.Layout.{block_rows, block_count, tops_from, starts_from, part_length}
use Rattle.session_start.specs.Tables.{back}
use Rattle.session_start.specs.WorkWords.{columns_left, next_row, next_shared, highest_after}
use Rattle.session_start.proofs.WorkWords.{Outside, Free, HoldsTables, Holds}
use Rattle.session_cells.specs.Passing.{reach_at, best_at, top_at, start_at, lowered}
use Rattle.session_cells.specs.Leaving.{is_lowered, left_starts}
use Rattle.session_cells.proofs.Leaving.{length_left, get_d_left}
use Rattle.session_rule.proofs.Chunk.{PartHolds, SameOutside}
use Rattle.session_rule.proofs.Leaving.{left_start}
use Rattle.mapper.specs.Walking.{Place}
use Rattle.mapper.specs.Walking.{middle, part_of, with_part, starts_length, left_words, saved}
use Rattle.mapper.proofs.Middles.{middle_number, middle_word, same_number, inner_word, outer_word}
use Rattle.mapper.proofs.Walking.{saved_other, saved_behind}

-- an index of a table, from the words' start and from the part's
moved : (work : List ℕ) (b i : ℕ) → get_or work (index_from + (b + i)) 0 ≡ get_or work (index_from + b + i) 0
moved work b i = let e : index_from + (b + i) ≡ index_from + b + i = omega arith in ap (λ (n : ℕ). get_or work n 0) e

module _ (task : Task) (small : hit_count task ≤ hit_limit) (before : List ℕ) (many : work_words ≤ length before) where
  many_of : (q n : ℕ) (work : List ℕ) → HoldsTables task before q n work → work_words ≤ length work
  many_of q n work h = rw h.number many

  -- ---- the part of a column

  module _ (q j : ℕ) (work : List ℕ) (h : HoldsTables task before q (suc j) work) where
    part_fits : index_from + part_length ≤ length work
    part_fits = omega (arith, many_of q (suc j) work h)

    in_part : (b i : ℕ) → b + i < part_length → get_or (part_of work) (b + i) 0 ≡ get_or work (index_from + b + i) 0
    in_part b i l = middle_word index_from part_length work work part_fits (b + i) l ∙ moved work b i

    pub tables_part : PartHolds task j q (part_of work)
    tables_part = record {
      number = middle_number index_from part_length work work part_fits;
      index_word = λ i l. middle_word index_from part_length work work part_fits i (omega arith) ∙ h.index_word i l;
      reach_word = λ i l. in_part (reach_at 0) i (omega arith) ∙ h.reach_word i l;
      best_word = λ i l. in_part (best_at 0) i (omega arith) ∙ h.best_word i l;
      top_word = λ b l. in_part (top_at 0) b (omega arith) ∙ h.tops_word b l;
      start_word = λ b l. in_part (start_at 0) b (omega arith) ∙ h.starts_word b l;
    }

    module _ (q' : ℕ) (part : List ℕ) (p : PartHolds task j q' part) (same : SameOutside task (part_of work) part) where
      -- a word outside of the part, and one in it
      out : (n : ℕ) → Outside index_from part_length n → get_or (with_part work part) n 0 ≡ get_or work n 0
      out = outer_word index_from part_length work part part_fits p.number

      inner : (b i : ℕ) → b + i < part_length → get_or (with_part work part) (index_from + b + i) 0 ≡ get_or part (b + i) 0
      inner b i l = sym (moved (with_part work part) b i) ∙ inner_word index_from part_length work part part_fits p.number (b + i) l

      -- a word that no table holds is as it was, wherever it lies
      free_back : (n : ℕ) → Free (hit_count task) n → get_or (with_part work part) n 0 ≡ get_or work n 0
      free_back n f = go (ltb n index_from) refl (ltb n (index_from + part_length)) refl
        where
          shift : (a k : ℕ) → Outside (index_from + a) k n → index_from ≤ n → Outside a k (n - index_from)
          shift a k (inl o) l = inl (omega arith)
          shift a k (inr o) l = inr (omega arith)

          go : (a : Bool) → ltb n index_from ≡ a → (b : Bool) → ltb n (index_from + part_length) ≡ b → get_or (with_part work part) n 0 ≡ get_or work n 0
          go true e b g = out n (inl (ltb-true n index_from e))
          go false e true g =
              let low : index_from ≤ n = ltb-false n index_from e in
              let high : n < index_from + part_length = ltb-true n (index_from + part_length) g in
              let k : n ≡ index_from + (n - index_from) = omega arith in
              ap (λ (i : ℕ). get_or (with_part work part) i 0) k
              ∙ inner_word index_from part_length work part part_fits p.number (n - index_from) (omega arith)
              ∙ same (n - index_from) (shift (best_at 0) (hit_count task) f.no_best low) (shift (top_at 0) (block_count (hit_count task)) f.no_tops low)
              ∙ middle_word index_from part_length work work part_fits (n - index_from) (omega arith)
              ∙ ap (λ (i : ℕ). get_or work i 0) (sym k)
          go false e false g = out n (inr (ltb-false n (index_from + part_length) g))

      pub part_tables : HoldsTables task before q' (suc j) (with_part work part)
      part_tables = record {
        number = same_number index_from part_length work part part_fits p.number ∙ h.number;
        h_word = out hits_at (inl (omega arith)) ∙ h.h_word;
        first_word = out u_at (inl (omega arith)) ∙ h.first_word;
        second_word = out v_at (inl (omega arith)) ∙ h.second_word;
        kind_word = out kind_at (inl (omega arith)) ∙ h.kind_word;
        size_word = out size_at (inl (omega arith)) ∙ h.size_word;
        threshold_word = out threshold_at (inl (omega arith)) ∙ h.threshold_word;
        back_word = λ i l. out (back_from + i) (inl (omega arith)) ∙ h.back_word i l;
        index_word = λ i l. inner_word index_from part_length work part part_fits p.number i (omega arith) ∙ p.index_word i l;
        reach_word = λ i l. inner (reach_at 0) i (omega arith) ∙ p.reach_word i l;
        best_word = λ i l. inner (best_at 0) i (omega arith) ∙ p.best_word i l;
        tops_word = λ b l. inner (top_at 0) b (omega arith) ∙ p.top_word b l;
        starts_word = λ b l. inner (start_at 0) b (omega arith) ∙ p.start_word b l;
        free_word = λ n f. free_back n f ∙ h.free_word n f;
      }

      -- the words before the part stay
      pub passed_back : get_or (with_part work part) passed_at 0 ≡ get_or work passed_at 0
      passed_back = out passed_at (inl (omega arith))

    -- ---- the column left

    module _ (limited : Limited task) (l : j < hit_count task) where
      starts_fit : starts_from + starts_length ≤ length work
      starts_fit = omega (arith, many_of q (suc j) work h)

      -- back of the column's hit, and starts as they are left
      abbrev from : ℕ
      from = get_or work (back_from + suc j - 1) 0

      from_is : from ≡ back task.pattern (hit_codes task) j
      from_is = let e : back_from + suc j - 1 ≡ back_from + j = omega arith in ap (λ (n : ℕ). get_or work n 0) e ∙ h.back_word j l

      column_is : suc j - 1 ≡ j
      column_is = omega arith

      abbrev starts : List ℕ
      starts = middle starts_from starts_length work

      abbrev later : List ℕ
      later = left_starts from (suc j - 1) 0 starts

      number_later : length later ≡ starts_length
      number_later = length_left from (suc j - 1) 0 starts ∙ middle_number starts_from starts_length work work starts_fit

      later_word : (b : ℕ) → b < starts_length
          → get_or (left_words work (suc j)) (starts_from + b) 0
          ≡ cond (is_lowered (back task.pattern (hit_codes task) j) j b) (lowered (get_or work (starts_from + b) 0) 1) (get_or work (starts_from + b) 0)
      unfolding left_words
      later_word b k =
          let n : length starts ≡ starts_length = middle_number starts_from starts_length work work starts_fit in
          inner_word starts_from starts_length work later starts_fit number_later b k
          ∙ get_d_left from (suc j - 1) starts b (rw n k)
          ∙ rw (middle_word starts_from starts_length work work starts_fit b k, from_is, column_is)

      outside : (n : ℕ) → Outside starts_from starts_length n → get_or (left_words work (suc j)) n 0 ≡ get_or work n 0
      unfolding left_words
      outside = outer_word starts_from starts_length work later starts_fit number_later

      -- a block behind the column is not reached
      not_reached : (b m : ℕ) → j < b * block_rows → cond (is_lowered (back task.pattern (hit_codes task) j) j b) (lowered m 1) m ≡ m
      unfolding is_lowered
      not_reached b m k = rw (lt-leb (b * block_rows) j k) (go (leb (back task.pattern (hit_codes task) j) (b * block_rows)))
        where
          go : (t : Bool) → cond (t && false) (lowered m 1) m ≡ m
          go true = refl
          go false = refl

      free_left : (n : ℕ) → Free (hit_count task) n → get_or (left_words work (suc j)) n 0 ≡ get_or work n 0
      free_left n f = go f.no_starts (ltb n (starts_from + starts_length)) refl
        where
          go : Outside starts_from (suc (block_count (hit_count task))) n → (t : Bool) → ltb n (starts_from + starts_length) ≡ t
              → get_or (left_words work (suc j)) n 0 ≡ get_or work n 0
          go (inl a) t e = outside n (inl a)
          go (inr a) false e = outside n (inr (ltb-false n (starts_from + starts_length) e))
          go (inr a) true e =
              let b : n < starts_from + starts_length = ltb-true n (starts_from + starts_length) e in
              let k : n ≡ starts_from + (n - starts_from) = omega arith in
              ap (λ (i : ℕ). get_or (left_words work (suc j)) i 0) k
              ∙ later_word (n - starts_from) (omega arith)
              ∙ not_reached (n - starts_from) (get_or work (starts_from + (n - starts_from)) 0) (omega arith)
              ∙ ap (λ (i : ℕ). get_or work i 0) (sym k)

      pub left_tables : HoldsTables task before q j (left_words work (suc j))
      unfolding left_words
      left_tables = record {
        number = same_number starts_from starts_length work later starts_fit number_later ∙ h.number;
        h_word = outside hits_at (inl (omega arith)) ∙ h.h_word;
        first_word = outside u_at (inl (omega arith)) ∙ h.first_word;
        second_word = outside v_at (inl (omega arith)) ∙ h.second_word;
        kind_word = outside kind_at (inl (omega arith)) ∙ h.kind_word;
        size_word = outside size_at (inl (omega arith)) ∙ h.size_word;
        threshold_word = outside threshold_at (inl (omega arith)) ∙ h.threshold_word;
        back_word = λ i k. outside (back_from + i) (inl (omega arith)) ∙ h.back_word i k;
        index_word = λ i k. outside (index_from + i) (inl (omega arith)) ∙ h.index_word i k;
        reach_word = λ i k. outside (reach_from + i) (inl (omega arith)) ∙ h.reach_word i k;
        best_word = λ i k. outside (best_from + i) (inl (omega arith)) ∙ h.best_word i k;
        tops_word = λ b k. outside (tops_from + b) (inl (omega arith)) ∙ h.tops_word b k;
        starts_word = λ b k. later_word b (omega arith) ∙ rw (h.starts_word b k) (left_start task limited j b l);
        free_word = λ n f. free_left n f ∙ h.free_word n f;
      }

      pub passed_left : get_or (left_words work (suc j)) passed_at 0 ≡ get_or work passed_at 0
      passed_left = outside passed_at (inl (omega arith))

  -- ---- the place saved

  module _ (q n : ℕ) (work : List ℕ) (held : HoldsTables task before q n work) (place : Place) (cells : ℕ) where
    abbrev saved₃ : List ℕ
    saved₃ = set work passed_at ((get_or work passed_at 0 + cells) % word_limit)

    abbrev saved₇ : List ℕ
    saved₇ = set saved₃ columns_at place.columns

    abbrev saved₈ : List ℕ
    saved₈ = set saved₇ row_at place.row

    abbrev saved₉ : List ℕ
    saved₉ = set saved₈ m_at place.m

    many_words : work_words ≤ length work
    many_words = many_of q n work held

    number₇ : length saved₇ ≡ length work
    number₇ = length-set saved₃ columns_at place.columns ∙ length-set work passed_at ((get_or work passed_at 0 + cells) % word_limit)

    number₈ : length saved₈ ≡ length work
    number₈ = length-set saved₇ row_at place.row ∙ number₇

    number₉ : length saved₉ ≡ length work
    number₉ = length-set saved₈ m_at place.m ∙ number₈

    -- a word before those of the place, or between them
    saved_low : (n : ℕ) → (n < 3) ⊎ ((3 < n) × (n < 7)) → get_or (saved work place cells) n 0 ≡ get_or work n 0
    saved_low n (inl l) =
        saved_other work place cells n (λ e. omega arith) (λ e. omega arith) (λ e. omega arith) (λ e. omega arith) (λ e. omega arith)
    saved_low n (inr l) =
        saved_other work place cells n (λ e. omega arith) (λ e. omega arith) (λ e. omega arith) (λ e. omega arith) (λ e. omega arith)

    saved_tables : HoldsTables task before q n (saved work place cells)
    unfolding saved
    saved_tables = record {
      number = length-set saved₉ highest_at place.highest ∙ number₉ ∙ held.number;
      h_word = saved_low 0 (inl (omega arith)) ∙ held.h_word;
      first_word = saved_low 1 (inl (omega arith)) ∙ held.first_word;
      second_word = saved_low 2 (inl (omega arith)) ∙ held.second_word;
      kind_word = saved_low 4 (inr (omega arith)) ∙ held.kind_word;
      size_word = saved_low 5 (inr (omega arith)) ∙ held.size_word;
      threshold_word = saved_low 6 (inr (omega arith)) ∙ held.threshold_word;
      back_word = λ i l. saved_behind work place cells (back_from + i) (omega arith) ∙ held.back_word i l;
      index_word = λ i l. saved_behind work place cells (index_from + i) (omega arith) ∙ held.index_word i l;
      reach_word = λ i l. saved_behind work place cells (reach_from + i) (omega arith) ∙ held.reach_word i l;
      best_word = λ i l. saved_behind work place cells (best_from + i) (omega arith) ∙ held.best_word i l;
      tops_word = λ b l. saved_behind work place cells (tops_from + b) (omega arith) ∙ held.tops_word b l;
      starts_word = λ b l. saved_behind work place cells (starts_from + b) (omega arith) ∙ held.starts_word b l;
      free_word = λ n f. saved_behind work place cells n f.heading_before ∙ held.free_word n f;
    }

    pub place_saved : q < word_limit → get_or work passed_at 0 + cells ≡ q → n ≡ columns_left (hit_count task) q
        → place.columns ≡ columns_left (hit_count task) q
        → place.row ≡ next_row (hit_count task) q
        → place.m ≡ next_shared task (columns_left (hit_count task) q) (next_row (hit_count task) q) → place.highest ≡ highest_after task q
        → Holds task before q (saved work place cells)
    unfolding saved
    place_saved fits e en ec er em eh = record {
      held = rw en at saved_tables;
      passed_word =
          get_or-set_other saved₉ highest_at 3 place.highest 0 (λ f. omega arith)
          ∙ get_or-set_other saved₈ m_at 3 place.m 0 (λ f. omega arith)
          ∙ get_or-set_other saved₇ row_at 3 place.row 0 (λ f. omega arith)
          ∙ get_or-set_other saved₃ columns_at 3 place.columns 0 (λ f. omega arith)
          ∙ get_or-set_same work passed_at ((get_or work passed_at 0 + cells) % word_limit) 0 (omega (arith, many_words))
          ∙ ap (λ (n : ℕ). n % word_limit) e
          ∙ mod-eq_of_lt fits;
      columns_word =
          get_or-set_other saved₉ highest_at 7 place.highest 0 (λ f. omega arith)
          ∙ get_or-set_other saved₈ m_at 7 place.m 0 (λ f. omega arith)
          ∙ get_or-set_other saved₇ row_at 7 place.row 0 (λ f. omega arith)
          ∙ get_or-set_same saved₃ columns_at place.columns 0
          (rw (length-set work passed_at ((get_or work passed_at 0 + cells) % word_limit)) (omega (arith, many_words)))
          ∙ ec;
      row_word =
          get_or-set_other saved₉ highest_at 8 place.highest 0 (λ f. omega arith)
          ∙ get_or-set_other saved₈ m_at 8 place.m 0 (λ f. omega arith)
          ∙ get_or-set_same saved₇ row_at place.row 0 (rw number₇ (omega (arith, many_words)))
          ∙ er;
      shared_word =
          get_or-set_other saved₉ highest_at 9 place.highest 0 (λ f. omega arith)
          ∙ get_or-set_same saved₈ m_at place.m 0 (rw number₈ (omega (arith, many_words)))
          ∙ em;
      highest_word = get_or-set_same saved₉ highest_at place.highest 0 (rw number₉ (omega (arith, many_words))) ∙ eh;
    }
