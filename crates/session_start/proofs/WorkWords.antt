-- What the work words hold, word by word: the same as `session_words`. A walk leaves the words of its place (3 and 7 to 10) alone
-- until it ends, so those stand apart.
use Prim.Native.Nat.{ℕ, zero, suc, ◌+◌, ◌-◌, ◌≤◌, ◌<◌}
use native.Mathlib.Nat.{le_of_suc-le-suc, not-suc-le-zero}
use native.Mathlib.Omega.{arith}
use mathlib.Core.Path.{◌≡◌, refl, sym, ap, ap₂, ◌∙◌, subst}
use mathlib.Core.Logic.{◌⊎◌, inl, inr}
use mathlib.Core.Bool.{Bool, true, false, cond, ◌&&◌}
use mathlib.Core.List.{List, [], ◌∷◌, ◌++◌, map}
use lib.Dec.{leb, ltb}
use lib.ListN.{length, get_or, take, drop, take-append-drop, replicate, length-drop, length-map, length-replicate, get_or-eq_default}
use lib.Seq.{ext_get_or, length-take-le, get_or-take, get_or-drop}
use borrow.Author.Tests.{le-leb, lt-leb, lt-ltb, le-ltb, leb-true, leb-false, ltb-true, ltb-false}
use Rattle.base.specs.Limits.{hit_limit, work_words}
use Rattle.base.specs.Lists.{range}
use Rattle.base.proofs.Lists.{length_range, get_d_range}
use Rattle.mappings.specs.Score.{Task}
use Rattle.mappings.specs.Cells.{Cell, hits, hit_count, cells_of, left_end, right_end}
use Rattle.mappings.specs.HitCodes.{hit_codes}
use Rattle.session_words.specs.FirstWords.{hits_at, u_at, v_at, passed_at, kind_at}
use Rattle.session_words.specs.Layout.{size_at, threshold_at, columns_at, row_at, m_at, highest_at}
use Rattle.session_words.specs.Layout.{back_from, index_from, reach_from, best_from, block_count, tops_from, starts_from}
use Rattle.session_records.specs.Records.{block_top}
use Rattle.session_records.specs.Order.{Preorder}
use Rattle.session_records.proofs.Recorded.{length_with_record}
use Rattle.session_records.proofs.Words.{word_order}
use Rattle.session_start.specs.ScoreWords.{by_fractions, threshold_word, score_word_of}
use Rattle.session_start.specs.Numbers.{first_number, second_number, kind_number}
use Rattle.session_start.specs.Tables.{reach, back, start_of}
use Rattle.session_start.specs.WorkWords.{columns_left, next_row, next_shared, order_of, with_cell, with_cells, best_after, highest_after}
use Rattle.session_start.specs.WorkWords.{tops_after, starts_after, heading, Table, tables, word_in, session_words}

-- index n lies outside the h words of a table that begins here
abbrev pub Outside : ℕ → ℕ → ℕ → Type 0
Outside begins h n = (n < begins) ⊎ (begins + h ≤ n)

-- a word that no table holds
pub record Free (h n : ℕ) : Type 0 where
  pub heading_before : 11 ≤ n
  pub no_back : Outside back_from h n
  pub no_index : Outside index_from h n
  pub no_reach : Outside reach_from h n
  pub no_best : Outside best_from h n
  pub no_tops : Outside tops_from (block_count h) n
  pub no_starts : Outside starts_from (suc (block_count h)) n

-- all but the words of the place; starts as in the last of n columns
pub record HoldsTables (task : Task) (before : List ℕ) (q n : ℕ) (work : List ℕ) : Type 0 where
  pub number : length work ≡ length before
  pub h_word : get_or work hits_at 0 ≡ hit_count task
  pub first_word : get_or work u_at 0 ≡ first_number task.scoring
  pub second_word : get_or work v_at 0 ≡ second_number task.scoring
  pub kind_word : get_or work kind_at 0 ≡ kind_number task.scoring
  pub size_word : get_or work size_at 0 ≡ length task.pattern
  pub threshold_word : get_or work threshold_at 0 ≡ threshold_word task.scoring
  pub back_word : (i : ℕ) → i < hit_count task → get_or work (back_from + i) 0 ≡ back task.pattern (hit_codes task) i
  pub index_word : (i : ℕ) → i < hit_count task → get_or work (index_from + i) 0 ≡ get_or (hits task) i 0
  pub reach_word : (i : ℕ) → i < hit_count task → get_or work (reach_from + i) 0 ≡ reach task.pattern (hit_codes task) i
  pub best_word : (i : ℕ) → i < hit_count task → get_or work (best_from + i) 0 ≡ get_or (best_after task q) i 0
  pub tops_word : (b : ℕ) → b < block_count (hit_count task) → get_or work (tops_from + b) 0 ≡ block_top (order_of task) (best_after task q) b
  pub starts_word : (b : ℕ) → b ≤ block_count (hit_count task) → get_or work (starts_from + b) 0 ≡ start_of task.pattern (hit_codes task) n b
  pub free_word : (n : ℕ) → Free (hit_count task) n → get_or work n 0 ≡ get_or before n 0

-- all words
pub record Holds (task : Task) (before : List ℕ) (q : ℕ) (work : List ℕ) : Type 0 where
  pub held : HoldsTables task before q (columns_left (hit_count task) q) work
  pub passed_word : get_or work passed_at 0 ≡ q
  pub columns_word : get_or work columns_at 0 ≡ columns_left (hit_count task) q
  pub row_word : get_or work row_at 0 ≡ next_row (hit_count task) q
  pub shared_word : get_or work m_at 0 ≡ next_shared task (columns_left (hit_count task) q) (next_row (hit_count task) q)
  pub highest_word : get_or work highest_at 0 ≡ highest_after task q

-- an index lies among the k words of a table that begins here, or outside of them
pub where_is : (begins k n : ℕ) → ((i : ℕ) × (i < k) × (n ≡ begins + i)) ⊎ Outside begins k n
where_is begins k n = go (leb begins n) refl (ltb n (begins + k)) refl
  where
    go : (a : Bool) → leb begins n ≡ a → (b : Bool) → ltb n (begins + k) ≡ b → ((i : ℕ) × (i < k) × (n ≡ begins + i)) ⊎ Outside begins k n
    go true e true f =
        let low : begins ≤ n = leb-true begins n e in
        let high : n < begins + k = ltb-true n (begins + k) f in
        inl (n - begins, omega arith, omega arith)
    go true e false f = inr (inr (ltb-false n (begins + k) f))
    go false e b f = inr (inl (leb-false begins n e))

-- ---- a word in its table

in_table : (table : Table) (rest : List Table) (old k i : ℕ) → length table.holds ≡ k → i < k
    → word_in (table ∷ rest) old (table.begins + i) ≡ get_or table.holds i 0
in_table table rest old k i e l =
    let low : table.begins ≤ table.begins + i = omega arith in
    let high : table.begins + i < table.begins + length table.holds = omega arith in
    let own : table.begins + i - table.begins ≡ i = omega arith in
    rw (le-leb table.begins (table.begins + i) low, lt-ltb (table.begins + i) (table.begins + length table.holds) high, own)

out_table : (table : Table) (rest : List Table) (old n k : ℕ) → length table.holds ≡ k → Outside table.begins k n
    → word_in (table ∷ rest) old n ≡ word_in rest old n
out_table table rest old n k e (inl a) = rw (lt-leb table.begins n a)
out_table table rest old n k e (inr b) = go (leb table.begins n)
  where
    go : (t : Bool)
        → cond (◌&&◌ t (ltb n (table.begins + length table.holds))) (get_or table.holds (n - table.begins) 0) (word_in rest old n) ≡ word_in rest old n
    go true = rw (e, le-ltb n (table.begins + k) b)
    go false = refl

-- what is asked of the order of the score words
pub task_order : (task : Task) → Preorder (order_of task)
task_order task = word_order (by_fractions task.scoring)

length_with_cells : (task : Task) (best : List ℕ) (cells : List Cell) → length (with_cells task best cells) ≡ length best
unfolding with_cell
length_with_cells task best [] = refl
length_with_cells task best (cell ∷ cells) =
    length_with_cells task (with_cell task best cell) cells
    ∙ length_with_record (order_of task) (task_order task) (threshold_word task.scoring) best cell.row
    (score_word_of task (left_end task cell) (right_end task cell))

pub length_best_after : (task : Task) (q : ℕ) → length (best_after task q) ≡ hit_count task
unfolding best_after
length_best_after task q = length_with_cells task (replicate (hit_count task) 0) (take q (cells_of task)) ∙ length-replicate (hit_count task) 0

pub length_table : (f : ℕ → ℕ) (h : ℕ) → length (map f (range 0 h)) ≡ h
length_table f h = length-map (range 0 h) f ∙ length_range 0 h

pub get_d_table : (f : ℕ → ℕ) (h i : ℕ) → i < h → get_or (map f (range 0 h)) i 0 ≡ f i
get_d_table f h i l =
    go (range 0 h) i (subst (λ (n : ℕ). i < n) (sym (length_range 0 h)) l) ∙ ap f (get_d_range 0 h i 0 l ∙ (let e : 0 + i ≡ i = omega arith in e))
  where
    go : (l : List ℕ) (i : ℕ) → i < length l → get_or (map f l) i 0 ≡ f (get_or l i 0)
    go [] i h = absurd (not-suc-le-zero h)
    go (x ∷ xs) zero h = refl
    go (x ∷ xs) (suc i) h = go xs i (le_of_suc-le-suc h)

-- ---- the words of a session, by index

module _ (task : Task) (q : ℕ) where
  abbrev h : ℕ
  h = hit_count task

  abbrev p : List ℕ
  p = task.pattern

  abbrev g : List ℕ
  g = hit_codes task

  abbrev table₀ : Table
  table₀ = record { begins = 0; holds = heading task q }

  abbrev table₁ : Table
  table₁ = record { begins = back_from; holds = map (back p g) (range 0 h) }

  abbrev table₂ : Table
  table₂ = record { begins = index_from; holds = hits task }

  abbrev table₃ : Table
  table₃ = record { begins = reach_from; holds = map (reach p g) (range 0 h) }

  abbrev table₄ : Table
  table₄ = record { begins = best_from; holds = best_after task q }

  abbrev table₅ : Table
  table₅ = record { begins = tops_from; holds = tops_after task q }

  abbrev table₆ : Table
  table₆ = record { begins = starts_from; holds = starts_after task q }

  -- the tables behind this one
  abbrev behind₅ : List Table
  behind₅ = table₆ ∷ []

  abbrev behind₄ : List Table
  behind₄ = table₅ ∷ behind₅

  abbrev behind₃ : List Table
  behind₃ = table₄ ∷ behind₄

  abbrev behind₂ : List Table
  behind₂ = table₃ ∷ behind₃

  abbrev behind₁ : List Table
  behind₁ = table₂ ∷ behind₂

  abbrev behind₀ : List Table
  behind₀ = table₁ ∷ behind₁

  hits_number : length (hits task) ≡ h
  unfolding hit_count
  hits_number = refl

  tops_number : length (tops_after task q) ≡ block_count h
  unfolding tops_after
  tops_number = length_table (block_top (order_of task) (best_after task q)) (block_count h)

  starts_number : length (starts_after task q) ≡ suc (block_count h)
  unfolding starts_after
  starts_number = length_table (start_of p g (columns_left h q)) (suc (block_count h))

  module _ (old n : ℕ) where
    -- outside a table a word is that of the tables behind it
    past₀ : 11 ≤ n → word_in (tables task q) old n ≡ word_in behind₀ old n
    unfolding tables heading
    past₀ low = out_table table₀ behind₀ old n 11 refl (inr low)

    past₁ : Outside back_from h n → word_in behind₀ old n ≡ word_in behind₁ old n
    past₁ o = out_table table₁ behind₁ old n h (length_table (back p g) h) o

    past₂ : Outside index_from h n → word_in behind₁ old n ≡ word_in behind₂ old n
    past₂ o = out_table table₂ behind₂ old n h hits_number o

    past₃ : Outside reach_from h n → word_in behind₂ old n ≡ word_in behind₃ old n
    past₃ o = out_table table₃ behind₃ old n h (length_table (reach p g) h) o

    past₄ : Outside best_from h n → word_in behind₃ old n ≡ word_in behind₄ old n
    past₄ o = out_table table₄ behind₄ old n h (length_best_after task q) o

    past₅ : Outside tops_from (block_count h) n → word_in behind₄ old n ≡ word_in behind₅ old n
    past₅ o = out_table table₅ behind₅ old n (block_count h) tops_number o

    past₆ : Outside starts_from (suc (block_count h)) n → word_in behind₅ old n ≡ old
    past₆ o = out_table table₆ [] old n (suc (block_count h)) starts_number o

    past_all : Free h n → word_in (tables task q) old n ≡ old
    past_all f =
        past₀ f.heading_before
        ∙ past₁ f.no_back
        ∙ past₂ f.no_index
        ∙ past₃ f.no_reach
        ∙ past₄ f.no_best
        ∙ past₅ f.no_tops
        ∙ past₆ f.no_starts

    -- from where a table begins on, those before it are passed
    module _ (small : h ≤ hit_limit) where
      to_index : index_from ≤ n → word_in (tables task q) old n ≡ word_in behind₁ old n
      to_index l = past₀ (omega arith) ∙ past₁ (inr (omega arith))

      to_reach : reach_from ≤ n → word_in (tables task q) old n ≡ word_in behind₂ old n
      to_reach l = to_index (omega arith) ∙ past₂ (inr (omega arith))

      to_best : best_from ≤ n → word_in (tables task q) old n ≡ word_in behind₃ old n
      to_best l = to_reach (omega arith) ∙ past₃ (inr (omega arith))

      to_tops : tops_from ≤ n → word_in (tables task q) old n ≡ word_in behind₄ old n
      to_tops l = to_best (omega arith) ∙ past₄ (inr (omega arith))

      to_starts : starts_from ≤ n → word_in (tables task q) old n ≡ word_in behind₅ old n
      to_starts l = to_tops (omega arith) ∙ past₅ (inr (omega arith))

  module _ (old : ℕ) (small : h ≤ hit_limit) where
    at_heading : (n : ℕ) → n < 11 → word_in (tables task q) old n ≡ get_or (heading task q) n 0
    unfolding tables heading
    at_heading n l = let e : n ≡ 0 + n = omega arith in ap (word_in (tables task q) old) e ∙ in_table table₀ behind₀ old 11 n refl l

    at_back : (i : ℕ) → i < h → word_in (tables task q) old (back_from + i) ≡ back p g i
    at_back i l =
        past₀ old (back_from + i) (omega arith)
        ∙ in_table table₁ behind₁ old h i (length_table (back p g) h) l
        ∙ get_d_table (back p g) h i l

    at_index : (i : ℕ) → i < h → word_in (tables task q) old (index_from + i) ≡ get_or (hits task) i 0
    at_index i l = to_index old (index_from + i) small (omega arith) ∙ in_table table₂ behind₂ old h i hits_number l

    at_reach : (i : ℕ) → i < h → word_in (tables task q) old (reach_from + i) ≡ reach p g i
    at_reach i l =
        to_reach old (reach_from + i) small (omega arith)
        ∙ in_table table₃ behind₃ old h i (length_table (reach p g) h) l
        ∙ get_d_table (reach p g) h i l

    at_best : (i : ℕ) → i < h → word_in (tables task q) old (best_from + i) ≡ get_or (best_after task q) i 0
    at_best i l = to_best old (best_from + i) small (omega arith) ∙ in_table table₄ behind₄ old h i (length_best_after task q) l

    at_tops : (b : ℕ) → b < block_count h → word_in (tables task q) old (tops_from + b) ≡ block_top (order_of task) (best_after task q) b
    unfolding tops_after
    at_tops b l =
        to_tops old (tops_from + b) small (omega arith)
        ∙ in_table table₅ behind₅ old (block_count h) b tops_number l
        ∙ get_d_table (block_top (order_of task) (best_after task q)) (block_count h) b l

    at_starts : (b : ℕ) → b ≤ block_count h → word_in (tables task q) old (starts_from + b) ≡ start_of p g (columns_left h q) b
    unfolding starts_after
    at_starts b l =
        let within : b < suc (block_count h) = omega arith in
        to_starts old (starts_from + b) small (omega arith)
        ∙ in_table table₆ [] old (suc (block_count h)) b starts_number within
        ∙ get_d_table (start_of p g (columns_left h q)) (suc (block_count h)) b within

-- ---- the words of a session hold what they should, and nothing else does

module _ (task : Task) (before : List ℕ) (q : ℕ) (small : hit_count task ≤ hit_limit) (many : work_words ≤ length before) where
  pub session_number : length (session_words task before q) ≡ length before
  unfolding session_words
  session_number = length_table (λ (n : ℕ). word_in (tables task q) (get_or before n 0) n) (length before)

  word_at : (n : ℕ) → n < length before → get_or (session_words task before q) n 0 ≡ word_in (tables task q) (get_or before n 0) n
  unfolding session_words
  word_at n l = get_d_table (λ (n : ℕ). word_in (tables task q) (get_or before n 0) n) (length before) n l

  head_word : (n : ℕ) → n < 11 → get_or (session_words task before q) n 0 ≡ get_or (heading task q) n 0
  head_word n l = word_at n (omega arith) ∙ at_heading task q (get_or before n 0) small n l

  free : (n : ℕ) → Free (hit_count task) n → get_or (session_words task before q) n 0 ≡ get_or before n 0
  free n f = go (ltb n (length before)) refl
    where
      go : (b : Bool) → ltb n (length before) ≡ b → get_or (session_words task before q) n 0 ≡ get_or before n 0
      go true e = word_at n (ltb-true n (length before) e) ∙ past_all task q (get_or before n 0) n f
      go false e =
          let out : length before ≤ n = ltb-false n (length before) e in
          get_or-eq_default (session_words task before q) 0 (rw session_number out) ∙ sym (get_or-eq_default before 0 out)

  pub words_hold : Holds task before q (session_words task before q)
  unfolding heading
  words_hold = record {
    held = record {
      number = session_number;
      h_word = head_word 0 (omega arith);
      first_word = head_word 1 (omega arith);
      second_word = head_word 2 (omega arith);
      kind_word = head_word 4 (omega arith);
      size_word = head_word 5 (omega arith);
      threshold_word = head_word 6 (omega arith);
      back_word = λ i l. word_at (back_from + i) (omega arith) ∙ at_back task q (get_or before (back_from + i) 0) small i l;
      index_word = λ i l. word_at (index_from + i) (omega arith) ∙ at_index task q (get_or before (index_from + i) 0) small i l;
      reach_word = λ i l. word_at (reach_from + i) (omega arith) ∙ at_reach task q (get_or before (reach_from + i) 0) small i l;
      best_word = λ i l. word_at (best_from + i) (omega arith) ∙ at_best task q (get_or before (best_from + i) 0) small i l;
      tops_word = λ b l. word_at (tops_from + b) (omega arith) ∙ at_tops task q (get_or before (tops_from + b) 0) small b l;
      starts_word = λ b l. word_at (starts_from + b) (omega arith) ∙ at_starts task q (get_or before (starts_from + b) 0) small b l;
      free_word = free;
    };
    passed_word = head_word 3 (omega arith);
    columns_word = head_word 7 (omega arith);
    row_word = head_word 8 (omega arith);
    shared_word = head_word 9 (omega arith);
    highest_word = head_word 10 (omega arith);
  }

  module _ (work : List ℕ) (held : Holds task before q work) where
    same_heading : (n : ℕ) → n < 11 → get_or work n 0 ≡ get_or (heading task q) n 0
    unfolding heading
    same_heading zero l = held.held.h_word
    same_heading (suc zero) l = held.held.first_word
    same_heading (suc (suc zero)) l = held.held.second_word
    same_heading (suc (suc (suc zero))) l = held.passed_word
    same_heading (suc (suc (suc (suc zero)))) l = held.held.kind_word
    same_heading (suc (suc (suc (suc (suc zero))))) l = held.held.size_word
    same_heading (suc (suc (suc (suc (suc (suc zero)))))) l = held.held.threshold_word
    same_heading (suc (suc (suc (suc (suc (suc (suc zero))))))) l = held.columns_word
    same_heading (suc (suc (suc (suc (suc (suc (suc (suc zero)))))))) l = held.row_word
    same_heading (suc (suc (suc (suc (suc (suc (suc (suc (suc zero))))))))) l = held.shared_word
    same_heading (suc (suc (suc (suc (suc (suc (suc (suc (suc (suc zero)))))))))) l = held.highest_word
    same_heading (suc (suc (suc (suc (suc (suc (suc (suc (suc (suc (suc n))))))))))) l = absurd (omega arith)

    -- a word of a table that both hold, or a word that the table does not hold
    in_both : (begins k n : ℕ) → ((i : ℕ) → i < k → get_or work (begins + i) 0 ≡ get_or (session_words task before q) (begins + i) 0)
        → (Outside begins k n → get_or work n 0 ≡ get_or (session_words task before q) n 0)
        → get_or work n 0 ≡ get_or (session_words task before q) n 0
    in_both begins k n same other = go (where_is begins k n)
      where
        go : ((i : ℕ) × (i < k) × (n ≡ begins + i)) ⊎ Outside begins k n → get_or work n 0 ≡ get_or (session_words task before q) n 0
        go (inl at) = rw at.2 (same at.0 at.1)
        go (inr o) = other o

    same_word : (n : ℕ) → get_or work n 0 ≡ get_or (session_words task before q) n 0
    same_word n =
        in_both 0 11 n (λ i l. (let e : 0 + i ≡ i = omega arith in rw e (same_heading i l ∙ sym (head_word i l))))
        (λ o₀. in_both back_from (hit_count task) n (λ i l. mine.back_word i l ∙ sym (its.back_word i l))
        (λ o₁. in_both index_from (hit_count task) n (λ i l. mine.index_word i l ∙ sym (its.index_word i l))
        (λ o₂. in_both reach_from (hit_count task) n (λ i l. mine.reach_word i l ∙ sym (its.reach_word i l))
        (λ o₃. in_both best_from (hit_count task) n (λ i l. mine.best_word i l ∙ sym (its.best_word i l))
        (λ o₄. in_both tops_from (block_count (hit_count task)) n (λ b l. mine.tops_word b l ∙ sym (its.tops_word b l))
        (λ o₅. in_both starts_from (suc (block_count (hit_count task))) n (λ b l. mine.starts_word b (omega arith) ∙ sym (its.starts_word b (omega arith)))
        (λ o₆. (let f : Free (hit_count task) n =
        record { heading_before = low o₀; no_back = o₁; no_index = o₂; no_reach = o₃; no_best = o₄; no_tops = o₅; no_starts = o₆ } in
        mine.free_word n f ∙ sym (its.free_word n f)))))))))
      where
        mine : HoldsTables task before q (columns_left (hit_count task) q) work
        mine = held.held

        its : HoldsTables task before q (columns_left (hit_count task) q) (session_words task before q)
        its = words_hold.held

        low : Outside 0 11 n → 11 ≤ n
        low (inl l) = absurd (omega arith)
        low (inr l) = omega arith

    pub hold_words : work ≡ session_words task before q
    hold_words = ext_get_or 0 work (session_words task before q) (held.held.number ∙ sym session_number) (λ n l. same_word n)

-- ---- a first part of the words

module _ (task : Task) (small : hit_count task ≤ hit_limit) (before : List ℕ) (lent : ℕ) (enough : work_words ≤ lent) (many : lent ≤ length before) where
  first_number_lem : length (take lent before) ≡ lent
  first_number_lem = length-take-le lent before many

  -- a first part of a session's words is those of a session in the first part
  pub take_session : (q : ℕ) → take lent (session_words task before q) ≡ session_words task (take lent before) q
  take_session q =
      let n : length (session_words task before q) ≡ length before = session_number task before q small (omega arith) in
      let n' : length (session_words task (take lent before) q) ≡ length (take lent before) =
      session_number task (take lent before) q small (rw first_number_lem enough) in
      let l : length (take lent (session_words task before q)) ≡ lent = length-take-le lent (session_words task before q) (rw n many) in
      ext_get_or 0 (take lent (session_words task before q)) (session_words task (take lent before) q) (l ∙ sym (n' ∙ first_number_lem))
      (λ i k.
      (let inside : i < lent = subst (λ (m : ℕ). i < m) l k in
      get_or-take lent (session_words task before q) i 0 inside
      ∙ word_at task before q small (omega arith) i (omega arith)
      ∙ ap (λ (x : ℕ). word_in (tables task q) x i) (sym (get_or-take lent before i 0 inside))
      ∙ sym (word_at task (take lent before) q small (rw first_number_lem enough) i (rw first_number_lem inside))))

  -- the words behind it are not the session's
  pub beyond_free : (i : ℕ) → lent ≤ i → Free (hit_count task) i
  beyond_free i l = record {
    heading_before = omega arith;
    no_back = inr (omega arith);
    no_index = inr (omega arith);
    no_reach = inr (omega arith);
    no_best = inr (omega arith);
    no_tops = inr (omega arith);
    no_starts = inr (omega arith);
  }

  -- they are as they were
  rest_session : (q : ℕ) → drop lent (session_words task before q) ≡ drop lent before
  rest_session q =
      let n : length (session_words task before q) ≡ length before = session_number task before q small (omega arith) in
      ext_get_or 0 (drop lent (session_words task before q)) (drop lent before)
      (length-drop lent (session_words task before q) ∙ ap (λ (m : ℕ). m - lent) n ∙ sym (length-drop lent before))
      (λ i k.
      get_or-drop lent (session_words task before q) i 0
      ∙ free task before q small (omega arith) (lent + i) (beyond_free (lent + i) (omega arith))
      ∙ sym (get_or-drop lent before i 0))

  pub drop_session : (q q' : ℕ) → drop lent (session_words task before q) ≡ drop lent (session_words task before q')
  drop_session q q' = rest_session q ∙ sym (rest_session q')

  -- a session in the first part, with the words behind it, is one in all of them
  pub part_session : (q : ℕ) → session_words task (take lent before) q ++ drop lent before ≡ session_words task before q
  part_session q =
      ap₂ (λ (l r : List ℕ). l ++ r) (sym (take_session q)) (sym (rest_session q)) ∙ take-append-drop lent (session_words task before q)
