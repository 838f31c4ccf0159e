-- Walks over any words: where a place settles, a walk unrolled by one column, and where a column's update stops.
use Prim.Native.Nat.{ℕ, suc, ◌+◌, ◌-◌, ◌%◌, ◌≤◌, ◌<◌, min, zero-le}
use native.Mathlib.Nat.{le_refl}
use native.Mathlib.Omega.{arith}
use mathlib.Core.Path.{◌≡◌, refl, sym, ap, ◌∙◌}
use mathlib.Core.Bool.{Bool, true, false, cond}
use mathlib.Core.List.{List}
use mathlib.Core.Logic.{◌≢◌}
use lib.Dec.{ltb}
use borrow.Author.Tests.{ne_eqb, lt-ltb, le-ltb, ltb-true, ltb-false}
use lib.ListN.{length, get_or, drop, set, length-drop}
use lib.Seq.{get_or-set_other, length-take-le}
use Rattle.base.specs.Limits.{weight_limit, hit_limit, work_words, word_limit}
use Rattle.session_words.specs.FirstWords.{u_at, v_at, passed_at, kind_at}
use Rattle.session_words.specs.Layout.{threshold_at, columns_at, row_at, m_at, highest_at, index_from, starts_from, part_length}
use Rattle.session_cells.specs.Passing.{pass_rows, column_pass, cell_pass}
use Rattle.session_cells.specs.declared.cells.Line.{Line}
use Rattle.session_cells.specs.declared.cells.Passed.{Passed}
use Rattle.session_cells.proofs.Passing.{bounded, blocks_bounded}
use Rattle.session_cells.proofs.Fitting.{fits_all, pass_fits, cell_fits}
use Rattle.mapper.specs.declared.terms.Terms.{Terms}
use Rattle.mapper.specs.Walking.{Place}
use Rattle.mapper.specs.Walking.{place_of, place_in, saved, middle, left_words, settled_words, settled, terms_in, line_of, part_of, with_part}
use Rattle.mapper.specs.Walking.{column_update, cell_update, Walk, spent_walk, finished_walk, found_walk, walk_on, one_walk}
use Rattle.mapper.proofs.Deciding.{SmallRates, small_rates}

-- the terms read from words with small numbers
pub small_terms : (work : List ℕ) (terms : Terms) → terms ≡ terms_in work → (get_or work u_at 0 ≤ weight_limit) × (get_or work v_at 0 ≤ weight_limit)
    → SmallRates terms.scoring
unfolding terms_in
small_terms work terms e small = rw e (small_rates (get_or work kind_at 0) (get_or work u_at 0) (get_or work v_at 0) (get_or work threshold_at 0) small)

-- the walk from a place, and that of one cell
abbrev pub walk_from : Terms → ℕ → Place → ℕ → List ℕ → Walk
walk_from terms budget place left work = walk_on terms budget place.columns place.row place.m place.highest left work

abbrev pub one_from : Terms → Place → List ℕ → Walk
one_from terms place work = one_walk terms place.columns place.row place.m place.highest work

-- ---- where a place settles

module _ (work : List ℕ) (columns : ℕ) (p : Passed) where
  pub settled_in : p.row < columns → settled work columns p ≡ place_in columns p
  unfolding settled
  settled_in l = rw (lt-ltb p.row columns l)

  pub words_in : p.row < columns → settled_words work columns p ≡ work
  unfolding settled_words
  words_in l = rw (lt-ltb p.row columns l)

  pub settled_next : columns ≤ p.row
      → settled work columns p ≡ place_of (columns - 1) 0 (get_or (left_words work columns) starts_from 0) (get_or (left_words work columns) threshold_at 0)
  unfolding settled
  settled_next l = rw (le-ltb p.row columns l)

  pub words_next : columns ≤ p.row → settled_words work columns p ≡ left_words work columns
  unfolding settled_words
  words_next l = rw (le-ltb p.row columns l)

  -- within the columns and rows that it came from
  pub settled_within : ((settled work columns p).columns ≤ columns) × ((settled work columns p).row ≤ p.row)
      × (p.row ≤ columns → (settled work columns p).row ≤ (settled work columns p).columns)
  settled_within = go (ltb p.row columns) refl
    where
      go : (b : Bool) → ltb p.row columns ≡ b → ((settled work columns p).columns ≤ columns) × ((settled work columns p).row ≤ p.row)
          × (p.row ≤ columns → (settled work columns p).row ≤ (settled work columns p).columns)
      go true t = rw (settled_in (ltb-true p.row columns t)) (le_refl columns, le_refl p.row, λ l. l)
      go false t = rw (settled_next (ltb-false p.row columns t)) (omega arith, zero-le, λ l. zero-le)

-- ---- a walk unrolled by one column

-- of two walks one is chosen by a test
first : (b : Bool) (one other : Walk) → b ≡ true → cond b one other ≡ one
first b one other e = rw e

second : (b : Bool) (one other : Walk) → b ≡ false → cond b one other ≡ other
second b one other e = rw e

suc_pred : (n : ℕ) → 0 < n → n ≡ suc (n - 1)
suc_pred n h = omega arith

pub walk_finished : (terms : Terms) (budget columns row m highest left : ℕ) (work : List ℕ) → columns ≡ 0
    → walk_on terms budget columns row m highest left work ≡ finished_walk work (place_of columns row m highest) (budget - left)
walk_finished terms budget columns row m highest left work e = rw e

module _ (terms : Terms) (budget columns row m highest left : ℕ) (work : List ℕ) (h : 0 < columns) where
  pub walk_spent : left ≡ 0 → walk_on terms budget columns row m highest left work ≡ spent_walk work (place_of columns row m highest) budget
  walk_spent e = rw (suc_pred columns h, e)

  -- with what the column's update has answered, and the words with its part back
  module _ (l : left ≢ 0) (p : Passed) (words : List ℕ) (ep : p ≡ (column_update terms (columns - 1) row m highest left work).answer)
      (ew : words ≡ with_part work (column_update terms (columns - 1) row m highest left work).part) where
    abbrev place : Place
    place = settled words columns p

    abbrev rest : ℕ
    rest = left - (p.row - row)

    unrolled : walk_on terms budget columns row m highest left work
        ≡ cond p.found (found_walk terms (settled_words words columns p) columns p place (budget - rest))
        (cond (ltb p.row columns) (spent_walk (settled_words words columns p) place (budget - rest))
        (walk_on terms budget (columns - 1) place.row place.m place.highest rest (settled_words words columns p)))
    unrolled =
        rw (ep, ew)
        (ap (λ (n : ℕ). walk_on terms budget n row m highest left work) (suc_pred columns h) ∙ simp (ne_eqb left 0 l, ← suc_pred columns h))

    pub walk_found : p.found ≡ true
        → walk_on terms budget columns row m highest left work ≡ found_walk terms (settled_words words columns p) columns p place (budget - rest)
    walk_found f = unrolled ∙ first p.found _ _ f

    pub walk_part : p.found ≡ false → p.row < columns
        → walk_on terms budget columns row m highest left work ≡ spent_walk words (place_in columns p) (budget - rest)
    walk_part f r =
        unrolled
        ∙ second p.found _ _ f
        ∙ first (ltb p.row columns) _ _ (lt-ltb p.row columns r)
        ∙ ap (λ (w : List ℕ). spent_walk w place (budget - rest)) (words_in words columns p r)
        ∙ ap (λ (q : Place). spent_walk words q (budget - rest)) (settled_in words columns p r)

    pub walk_next : p.found ≡ false → columns ≤ p.row
        → walk_on terms budget columns row m highest left work
        ≡ walk_on terms budget (columns - 1) place.row place.m place.highest rest (settled_words words columns p)
    walk_next f r = unrolled ∙ second p.found _ _ f ∙ second (ltb p.row columns) _ _ (le-ltb p.row columns r)

    -- where no candidate was met the walk goes on from where the place settles: in this column the budget is then spent
    pub walk_on_lem : p.found ≡ false → left ≤ budget → (p.row < columns → rest ≡ 0)
        → walk_on terms budget columns row m highest left work
        ≡ walk_on terms budget place.columns place.row place.m place.highest rest (settled_words words columns p)
    walk_on_lem f few none = go (ltb p.row columns) refl
      where
        spent_here : walk_on terms budget columns p.row p.m p.highest 0 words ≡ spent_walk words (place_in columns p) budget
        spent_here = rw (suc_pred columns h)

        go : (b : Bool) → ltb p.row columns ≡ b → walk_on terms budget columns row m highest left work
            ≡ walk_on terms budget place.columns place.row place.m place.highest rest (settled_words words columns p)
        go true t =
            let r : p.row < columns = ltb-true p.row columns t in
            let all : budget - rest ≡ budget = rw (none r) (omega arith) in
            walk_part f r
            ∙ ap (spent_walk words (place_in columns p)) all
            ∙ sym spent_here
            ∙ ap (λ (n : ℕ). walk_on terms budget columns p.row p.m p.highest n words) (sym (none r))
            ∙ ap (λ (w : List ℕ). walk_on terms budget columns p.row p.m p.highest rest w) (sym (words_in words columns p r))
            ∙ ap (λ (q : Place). walk_on terms budget q.columns q.row q.m q.highest rest (settled_words words columns p))
            (sym (settled_in words columns p r))
        go false t =
            let r : columns ≤ p.row = ltb-false p.row columns t in
            walk_next f r
            ∙ ap (λ (n : ℕ). walk_on terms budget n place.row place.m place.highest rest (settled_words words columns p))
            (sym (ap (λ (q : Place). q.columns) (settled_next words columns p r)))

-- ---- where a column's update stops

pub record Stops (columns row left : ℕ) (p : Passed) : Type 0 where
  pub from : row ≤ p.row
  pub within : p.row ≤ columns
  pub spends : p.row - row ≤ left
  pub moved : p.found ≡ true → suc row ≤ p.row
  pub whole : p.found ≡ false → p.row ≡ row + min left (columns - row)

pub update_stops : (terms : Terms) (columns row m highest left : ℕ) (work : List ℕ) (p : Passed) → 0 < columns → row ≤ columns
    → p ≡ (column_update terms (columns - 1) row m highest left work).answer → Stops columns row left p
unfolding column_update line_of
update_stops terms columns row m highest left work p h r e =
    let n = min left (suc (columns - 1) - row) in
    let b = blocks_bounded (line_of work terms (columns - 1)) n (row + n) row m highest (part_of work) (omega arith) (omega arith) (omega arith) in
    rw e (record {
      from = b.from;
      within = omega (arith, b.to);
      spends = omega (arith, b.to);
      moved = b.moved;
      whole = λ f. (let w = b.whole f in omega arith);
    })

-- where no candidate was met, the budget is spent or the column is left
module _ (columns row left : ℕ) (p : Passed) (s : Stops columns row left p) (f : p.found ≡ false) where
  pub spent_rest : p.row < columns → left - (p.row - row) ≡ 0
  spent_rest l = let w = s.whole f in omega arith

  pub less_left : (words : List ℕ) → 0 < columns → left ≢ 0 → (settled words columns p).columns + (left - (p.row - row)) < columns + left
  less_left words h n = go (ltb p.row columns) refl
    where
      go : (b : Bool) → ltb p.row columns ≡ b → (settled words columns p).columns + (left - (p.row - row)) < columns + left
      go true t =
          let l : p.row < columns = ltb-true p.row columns t in
          rw (settled_in words columns p l, spent_rest l) (omega arith)
      go false t = rw (settled_next words columns p (ltb-false p.row columns t)) (omega arith)

-- ---- a column as the code passes it

-- the part that a column is lent has all its tables
part_length_lem : (work : List ℕ) → work_words ≤ length work → length (part_of work) ≡ part_length
unfolding middle
part_length_lem work l = length-take-le part_length (drop index_from work) (let n = length-drop index_from work in omega arith)

module _ (terms : Terms) (columns row m highest : ℕ) (work : List ℕ) (line : Line) (small : columns ≤ hit_limit) (long : work_words ≤ length work)
    (l : line ≡ line_of work terms (columns - 1)) where
  column_is : line.column ≡ columns - 1
  unfolding line_of
  column_is = ap (λ (x : Line). x.column) l

  pub update_is : (left n : ℕ) → 0 < columns → row ≤ columns → n ≡ min left (columns - row)
      → column_pass line row (row + n) m highest (part_of work) ≡ column_update terms (columns - 1) row m highest left work
  unfolding column_update
  update_is left n h r k =
      let last : row + n ≤ line.column + 1 = omega (arith, column_is) in
      let g : row + n - row ≡ n = omega arith in
      let e : n ≡ min left (suc (columns - 1) - row) = omega arith in
      pass_fits line row (row + n) m highest (part_of work)
      (fits_all line (part_of work) row (row + n) (part_length_lem work long) (omega arith) (omega arith) last)
      ∙ rw (g, l, e)

  pub cell_is : row < columns → cell_pass line row m highest (part_of work) ≡ cell_update terms (columns - 1) row m highest work
  unfolding cell_update
  cell_is r =
      let last : row + 1 ≤ line.column + 1 = omega (arith, column_is) in
      cell_fits line row m highest (part_of work) (fits_all line (part_of work) row (row + 1) (part_length_lem work long) (omega arith) (omega arith) last)
      ∙ rw l

-- ---- the place saved: no other word changes

pub saved_other : (work : List ℕ) (place : Place) (cells n : ℕ)
    → (n ≡ 3 → ⊥) → (n ≡ 7 → ⊥) → (n ≡ 8 → ⊥) → (n ≡ 9 → ⊥) → (n ≡ 10 → ⊥)
    → get_or (saved work place cells) n 0 ≡ get_or work n 0
unfolding saved
saved_other work place cells n a b c d e =
    let saved₃ = set work passed_at ((get_or work passed_at 0 + cells) % word_limit) in
    let saved₇ = set saved₃ columns_at place.columns in
    let saved₈ = set saved₇ row_at place.row in
    let saved₉ = set saved₈ m_at place.m in
    get_or-set_other saved₉ highest_at n place.highest 0 e
    ∙ get_or-set_other saved₈ m_at n place.m 0 d
    ∙ get_or-set_other saved₇ row_at n place.row 0 c
    ∙ get_or-set_other saved₃ columns_at n place.columns 0 b
    ∙ get_or-set_other work passed_at n ((get_or work passed_at 0 + cells) % word_limit) 0 a

pub saved_behind : (work : List ℕ) (place : Place) (cells n : ℕ) → 11 ≤ n → get_or (saved work place cells) n 0 ≡ get_or work n 0
saved_behind work place cells n l =
    saved_other work place cells n (λ e. omega arith) (λ e. omega arith) (λ e. omega arith) (λ e. omega arith) (λ e. omega arith)

-- ---- the walk of one cell, in a column that has a further row

module _ (terms : Terms) (columns row m highest : ℕ) (work : List ℕ) (p : Passed) (words : List ℕ) (h : row + 1 < columns)
    (ep : p ≡ (cell_update terms (columns - 1) row m highest work).answer)
    (ew : words ≡ with_part work (cell_update terms (columns - 1) row m highest work).part) where
  -- it stops behind the cell
  pub one_row : p.row ≡ row + 1
  unfolding cell_update
  one_row = rw ep (go passed.found refl)
    where
      passed : Passed
      passed = (pass_rows (line_of work terms (columns - 1)) 1 row m highest (part_of work)).answer

      go : (f : Bool) → passed.found ≡ f → passed.row ≡ row + 1
      go true f = let b = bounded (line_of work terms (columns - 1)) 1 row m highest (part_of work) in omega (arith, b.moved f, b.to)
      go false f = (bounded (line_of work terms (columns - 1)) 1 row m highest (part_of work)).whole f

  pub one_found : p.found ≡ true → one_walk terms columns row m highest work ≡ found_walk terms words columns p (place_in columns p) 1
  unfolding one_walk
  one_found f = rw (ew, ep) (first (cell_update terms (columns - 1) row m highest work).answer.found _ _ (rw ep at f))

  pub one_spent : p.found ≡ false → one_walk terms columns row m highest work ≡ spent_walk words (place_in columns p) 1
  unfolding one_walk
  one_spent f = rw (ew, ep) (second (cell_update terms (columns - 1) row m highest work).answer.found _ _ (rw ep at f))
