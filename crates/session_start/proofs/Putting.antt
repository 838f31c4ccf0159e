-- Tables put into the work words: each in its place, and the others as they were. Put one after the other they are the words of a fresh
-- session.
use Prim.Native.Nat.{ℕ, zero, suc, ◌+◌, ◌-◌, ◌≤◌, ◌<◌, zero-le}
use native.Mathlib.Omega.{arith}
use mathlib.Core.Path.{◌≡◌, refl, sym, ap, ap₂, ◌∙◌}
use mathlib.Core.Logic.{inl, inr}
use mathlib.Core.List.{List}
use lib.ListN.{length, get_or, replicate, length-replicate, get_or-replicate}
use lib.Seq.{sets}
use borrow.Author.Tests.{lt-ltb}
use borrow.Rule.Slice.PartMut.{mid_of, put_mid}
use Rattle.base.specs.Limits.{hit_limit, work_words}
use Rattle.mappings.specs.declared.Scoring.{Scoring}
use Rattle.mappings.specs.Score.{Task}
use Rattle.mappings.specs.Cells.{hits, hit_count}
use Rattle.mappings.specs.HitCodes.{hit_codes}
use Rattle.mappings.proofs.HitCodes.{length_hit_codes, cell_shared}
use Rattle.session_words.specs.Layout.{back_from, index_from, reach_from, best_from, block_count, tops_from, starts_from}
use Rattle.session_records.specs.Records.{block_top}
use Rattle.session_records.proofs.Highest.{before_none}
use Rattle.session_records.proofs.Blocks.{no_top}
use Rattle.session_start.specs.ScoreWords.{threshold_word}
use Rattle.session_start.specs.Tables.{reach, back, start_of}
use Rattle.session_start.specs.WorkWords.{columns_left, next_row, next_shared, order_of, best_after, highest_after, session_words}
use Rattle.session_start.specs.Noting.{backs, reaches, HoldsReach, starts, fresh_heading, Prepared}
use Rattle.session_start.proofs.Storing.{Put, put_at, store_part, part_long}
use Rattle.session_start.proofs.Reaching.{length_backs, get_d_backs, length_reaches}
use Rattle.session_start.proofs.BlockStarts.{length_starts, get_d_starts}
use Rattle.session_start.proofs.WorkWords.{Outside, Free, task_order, hold_words, get_d_table}

-- ---- the place of a fresh session

columns_none : (h : ℕ) → columns_left h 0 ≡ h
columns_none zero = refl
columns_none (suc j) = rw (lt-ltb 0 (suc j) (omega arith))

row_none : (h : ℕ) → next_row h 0 ≡ 0
row_none zero = refl
row_none (suc j) = rw (lt-ltb 0 (suc j) (omega arith))

-- m of the first cell is that of the first block
shared_none : (task : Task) (h : ℕ) → hit_count task ≡ h → start_of task.pattern (hit_codes task) h 0 ≡ next_shared task h 0
shared_none task zero e = refl
shared_none task (suc j) e = sym (cell_shared task 0 j zero-le (omega arith))

highest_none : (task : Task) → threshold_word task.scoring ≡ highest_after task 0
unfolding highest_after
highest_none task =
    rw (row_none (hit_count task))
    (sym (before_none (order_of task) (task_order task) (threshold_word task.scoring) (best_after task 0)))

-- ---- all tables

-- the tables of a fresh session, put one after the other
pub record Puts (task : Task) (heading old w₁ w₂ w₃ w₄ w₅ w₆ w₇ : List ℕ) : Type 0 where
  pub put_back : Put back_from (backs task.pattern (hit_codes task)) old w₁
  pub put_index : Put index_from (hits task) w₁ w₂
  pub put_reach : Put reach_from (reaches task.pattern (hit_codes task)) w₂ w₃
  pub put_starts : Put starts_from (starts task.pattern (hit_codes task)) w₃ w₄
  pub put_best : Put best_from (replicate (hit_count task) 0) w₄ w₅
  pub put_tops : Put tops_from (replicate (block_count (hit_count task)) 0) w₅ w₆
  pub put_heading : Put 0 heading w₆ w₇

module _ (task : Task) where
  abbrev h : ℕ
  h = hit_count task

  abbrev p : List ℕ
  p = task.pattern

  abbrev g : List ℕ
  g = hit_codes task

  abbrev heading : List ℕ
  heading = fresh_heading task.scoring h (length p) (start_of p g h 0)

  length_g : length g ≡ h
  length_g = length_hit_codes task

  back_long : length (backs p g) ≡ h
  back_long = length_backs p g ∙ length_g

  index_long : length (hits task) ≡ h
  unfolding hit_count
  index_long = refl

  reach_long : length (reaches p g) ≡ h
  reach_long = length_reaches p g ∙ length_g

  starts_long : length (starts p g) ≡ suc (block_count h)
  starts_long = length_starts p g ∙ ap (λ (n : ℕ). suc (block_count n)) length_g

  best_long : length {A = ℕ} (replicate h 0) ≡ h
  best_long = length-replicate h 0

  tops_long : length {A = ℕ} (replicate (block_count h) 0) ≡ block_count h
  tops_long = length-replicate (block_count h) 0

  -- reach is in its place once it is put
  reach_put : (before after : List ℕ) → Put reach_from (reaches p g) before after → HoldsReach p g after
  unfolding reaches
  reach_put before after put i l = put.inside i (rw (length_reaches p g) l) ∙ get_d_table (reach p g) (length g) i l

  module _ (old w₁ w₂ w₃ w₄ w₅ w₆ w₇ : List ℕ) (puts : Puts task heading old w₁ w₂ w₃ w₄ w₅ w₆ w₇) (small : h ≤ hit_limit) where
    -- a word outside of the tables that were put last
    past₇ : (n : ℕ) → 11 ≤ n → get_or w₇ n 0 ≡ get_or w₆ n 0
    past₇ n l = puts.put_heading.outside n (inr l)

    past₆ : (n : ℕ) → 11 ≤ n → Outside tops_from (block_count h) n → get_or w₇ n 0 ≡ get_or w₅ n 0
    past₆ n l o = past₇ n l ∙ puts.put_tops.outside n (rw tops_long o)

    past₅ : (n : ℕ) → 11 ≤ n → Outside tops_from (block_count h) n → Outside best_from h n → get_or w₇ n 0 ≡ get_or w₄ n 0
    past₅ n l o₆ o = past₆ n l o₆ ∙ puts.put_best.outside n (rw best_long o)

    -- in front of best and of all that stands behind it
    past₄ : (n : ℕ) → 11 ≤ n → n < best_from → get_or w₇ n 0 ≡ get_or w₃ n 0
    past₄ n l o = past₅ n l (inl (omega arith)) (inl o) ∙ puts.put_starts.outside n (inl (omega arith))

    past₃ : (n : ℕ) → 11 ≤ n → n < reach_from → get_or w₇ n 0 ≡ get_or w₂ n 0
    past₃ n l o = past₄ n l (omega arith) ∙ puts.put_reach.outside n (inl o)

    past₂ : (n : ℕ) → 11 ≤ n → n < index_from → get_or w₇ n 0 ≡ get_or w₁ n 0
    past₂ n l o = past₃ n l (omega arith) ∙ puts.put_index.outside n (inl o)

    free : (n : ℕ) → Free h n → get_or w₇ n 0 ≡ get_or old n 0
    free n f =
        past₅ n f.heading_before f.no_tops f.no_best
        ∙ puts.put_starts.outside n (rw starts_long f.no_starts)
        ∙ puts.put_reach.outside n (rw reach_long f.no_reach)
        ∙ puts.put_index.outside n (rw index_long f.no_index)
        ∙ puts.put_back.outside n (rw back_long f.no_back)

    back_at : (i : ℕ) → i < h → get_or w₇ (back_from + i) 0 ≡ back p g i
    back_at i l = past₂ (back_from + i) (omega arith) (omega arith) ∙ puts.put_back.inside i (rw back_long l) ∙ get_d_backs p g i (rw length_g l)

    index_at : (i : ℕ) → i < h → get_or w₇ (index_from + i) 0 ≡ get_or (hits task) i 0
    index_at i l = past₃ (index_from + i) (omega arith) (omega arith) ∙ puts.put_index.inside i (rw index_long l)

    reach_at_lem : (i : ℕ) → i < h → get_or w₇ (reach_from + i) 0 ≡ reach p g i
    reach_at_lem i l = past₄ (reach_from + i) (omega arith) (omega arith) ∙ reach_put w₂ w₃ puts.put_reach i (rw length_g l)

    best_at_lem : (i : ℕ) → i < h → get_or w₇ (best_from + i) 0 ≡ get_or (best_after task 0) i 0
    unfolding best_after
    best_at_lem i l = past₆ (best_from + i) (omega arith) (inl (omega arith)) ∙ puts.put_best.inside i (rw best_long l)

    tops_at : (b : ℕ) → b < block_count h → get_or w₇ (tops_from + b) 0 ≡ block_top (order_of task) (best_after task 0) b
    unfolding best_after
    tops_at b l =
        past₇ (tops_from + b) (omega arith)
        ∙ puts.put_tops.inside b (rw tops_long l)
        ∙ get_or-replicate (block_count h) b 0 0 l
        ∙ sym (no_top (order_of task) (task_order task) h b)

    starts_at : (b : ℕ) → b ≤ block_count h → get_or w₇ (starts_from + b) 0 ≡ start_of p g (columns_left h 0) b
    starts_at b l =
        past₅ (starts_from + b) (omega arith) (inr (omega arith)) (inr (omega arith))
        ∙ puts.put_starts.inside b (omega (arith, starts_long))
        ∙ get_d_starts p g b (rw length_g l)
        ∙ ap (λ (n : ℕ). start_of p g n b) (length_g ∙ sym (columns_none h))

    head_at : (i : ℕ) → i < 11 → get_or w₇ i 0 ≡ get_or heading i 0
    head_at i l = let e : i ≡ 0 + i = omega arith in ap (λ (n : ℕ). get_or w₇ n 0) e ∙ puts.put_heading.inside i l

    -- the words of a fresh session
    puts_session : work_words ≤ length old → w₇ ≡ session_words task old 0
    puts_session many = hold_words task old 0 small many w₇ (record {
      held = record {
        number = puts.put_heading.same_length
            ∙ puts.put_tops.same_length
            ∙ puts.put_best.same_length
            ∙ puts.put_starts.same_length
            ∙ puts.put_reach.same_length
            ∙ puts.put_index.same_length
            ∙ puts.put_back.same_length;
        h_word = head_at 0 (omega arith);
        first_word = head_at 1 (omega arith);
        second_word = head_at 2 (omega arith);
        kind_word = head_at 4 (omega arith);
        size_word = head_at 5 (omega arith);
        threshold_word = head_at 6 (omega arith);
        back_word = back_at;
        index_word = index_at;
        reach_word = reach_at_lem;
        best_word = best_at_lem;
        tops_word = tops_at;
        starts_word = starts_at;
        free_word = free;
      };
      passed_word = head_at 3 (omega arith);
      columns_word = head_at 7 (omega arith) ∙ sym (columns_none h);
      row_word = head_at 8 (omega arith) ∙ sym (row_none h);
      shared_word = head_at 9 (omega arith) ∙ shared_none task h refl ∙ sym (ap₂ (next_shared task) (columns_none h) (row_none h));
      highest_word = head_at 10 (omega arith) ∙ highest_none task;
    })

-- ---- from what start has at hand

-- words whose n from an index on were lent, and have come back as this part
abbrev lent : ℕ → ℕ → List ℕ → List ℕ → List ℕ
lent at n words part = put_mid at (at + n - at) words part

module _ (task : Task) (scoring : Scoring) (size m : ℕ) (index noted old back_part index_part reach_part w₄ best_part tops_part w₇ : List ℕ) where
  abbrev n : ℕ
  n = length index

  abbrev w₁ : List ℕ
  w₁ = lent back_from n old back_part

  abbrev w₂ : List ℕ
  w₂ = lent index_from n w₁ index_part

  abbrev w₃ : List ℕ
  w₃ = lent reach_from n w₂ reach_part

  abbrev w₅ : List ℕ
  w₅ = lent best_from n w₄ best_part

  abbrev w₆ : List ℕ
  w₆ = lent tops_from (block_count n) w₅ tops_part

  -- the tables, written one after the other into lent parts; starts are told by what is in reach's place
  pub record Stores : Type 0 where
    pub ready : Prepared task scoring size index noted
    pub back_table : back_part ≡ noted
    pub index_table : index_part ≡ index
    pub reach_table : reach_part ≡ reaches task.pattern (hit_codes task)
    pub starts_table : (p g : List ℕ) → length g ≡ n → HoldsReach p g w₃
        → (m ≡ start_of p g n 0) × (w₄ ≡ sets w₃ starts_from (starts p g))
    pub best_table : best_part ≡ replicate (length (mid_of best_from (best_from + n - best_from) w₄)) 0
    pub tops_table : tops_part ≡ replicate (length (mid_of tops_from (tops_from + block_count n - tops_from) w₅)) 0
    pub heading_table : w₇ ≡ sets w₆ 0 (fresh_heading scoring n size m)

  pub stores_session : Stores → n ≤ hit_limit → work_words ≤ length old → w₇ ≡ session_words task old 0
  stores_session stores few many =
      puts_session task old w₁ w₂ w₃ w₄ w₅ w₆ w₇ (record {
        put_back = p₁;
        put_index = p₂;
        put_reach = p₃;
        put_starts = p₄;
        put_best = p₅;
        put_tops = p₆;
        put_heading = p₇;
      }) small many
    where
      number : n ≡ hit_count task
      number = ap length stores.ready.index_is ∙ index_long task

      small : hit_count task ≤ hit_limit
      small = rw (← number) few

      -- a table written into a part is put there
      part : (at k : ℕ) (table words new : List ℕ) → new ≡ table → length table ≡ k → at + k ≤ length words → Put at table words (lent at k words new)
      part at k table words new e l room = put_at at table words (lent at k words new) (store_part at k table words new e l room) (omega arith)

      p₁ : Put back_from (backs task.pattern (hit_codes task)) old w₁
      p₁ =
          part back_from n (backs task.pattern (hit_codes task)) old back_part (stores.back_table ∙ stores.ready.backs_are)
          (back_long task ∙ sym number) (omega arith)

      p₂ : Put index_from (hits task) w₁ w₂
      p₂ =
          part index_from n (hits task) w₁ index_part (stores.index_table ∙ stores.ready.index_is) (index_long task ∙ sym number)
          (omega (arith, p₁.same_length))

      p₃ : Put reach_from (reaches task.pattern (hit_codes task)) w₂ w₃
      p₃ =
          part reach_from n (reaches task.pattern (hit_codes task)) w₂ reach_part stores.reach_table (reach_long task ∙ sym number)
          (omega (arith, p₂.same_length, p₁.same_length))

      number₃ : length w₃ ≡ length old
      number₃ = p₃.same_length ∙ p₂.same_length ∙ p₁.same_length

      begun : (m ≡ start_of task.pattern (hit_codes task) n 0) × (w₄ ≡ sets w₃ starts_from (starts task.pattern (hit_codes task)))
      begun = stores.starts_table task.pattern (hit_codes task) (length_g task ∙ sym number) (reach_put task w₂ w₃ p₃)

      p₄ : Put starts_from (starts task.pattern (hit_codes task)) w₃ w₄
      p₄ = put_at starts_from (starts task.pattern (hit_codes task)) w₃ w₄ begun.1 (omega (arith, small, starts_long task, number₃))

      number₄ : length w₄ ≡ length old
      number₄ = p₄.same_length ∙ number₃

      p₅ : Put best_from (replicate (hit_count task) 0) w₄ w₅
      p₅ =
          let room : best_from + n ≤ length w₄ = omega (arith, number₄) in
          part best_from n (replicate (hit_count task) 0) w₄ best_part
          (stores.best_table ∙ ap (λ (k : ℕ). replicate k 0) (part_long best_from n w₄ room ∙ number)) (best_long task ∙ sym number) room

      p₆ : Put tops_from (replicate (block_count (hit_count task)) 0) w₅ w₆
      p₆ =
          let room : tops_from + block_count n ≤ length w₅ = omega (arith, p₅.same_length, number₄) in
          part tops_from (block_count n) (replicate (block_count (hit_count task)) 0) w₅ tops_part
          (stores.tops_table ∙ ap (λ (k : ℕ). replicate k 0) (part_long tops_from (block_count n) w₅ room ∙ ap block_count number))
          (tops_long task ∙ ap block_count (sym number)) room

      shared_is : m ≡ start_of task.pattern (hit_codes task) (hit_count task) 0
      shared_is = begun.0 ∙ ap (λ (k : ℕ). start_of task.pattern (hit_codes task) k 0) number

      same_heading : fresh_heading scoring n size m ≡ heading task
      same_heading = let r = stores.ready in cc (number, shared_is)

      p₇ : Put 0 (heading task) w₆ w₇
      p₇ =
          put_at 0 (heading task) w₆ w₇ (stores.heading_table ∙ ap (sets w₆ 0) same_heading)
          (omega (arith, p₆.same_length, p₅.same_length, number₄))
