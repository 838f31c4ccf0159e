-- An interval between hits has the m and the counts of the hits' codes in it: entries that are no hits add nothing. So cells are decided by
-- the codes of the hits alone.
use Prim.Native.Nat.{ℕ, zero, suc, ◌+◌, ◌≤◌, ◌<◌}
use native.Mathlib.Nat.{le_of_suc-le-suc, not-suc-le-zero, le_step, not-le_of_lt, zero-add}
use native.Mathlib.Omega.{arith}
use mathlib.Core.Path.{◌≡◌, refl, sym, ap, ap₂, ◌∙◌}
use mathlib.Core.Logic.{◌≢◌}
use mathlib.Core.Bool.{Bool, true, false}
use mathlib.Core.List.{List, [], ◌∷◌, ◌++◌}
use lib.Dec.{ltb, leb, eqb}
use lib.ListN.{length, get_or, take, drop, take-append-drop}
use lib.Seq.{take-suc, take-take, drop_at, length-take-le}
use borrow.Author.Tests.{lt-ltb, ltb-false}
use Rattle.base.specs.Lists.{bit, add_if, keep}
use Rattle.base.specs.Counts.{occ}
use Rattle.base.proofs.Lists.{keep_append}
use Rattle.base.proofs.Counts.{bit_other}
use Rattle.mappings.specs.Score.{Task, interval, shared, shared_of}
use Rattle.mappings.specs.FinalTest.{is_reasonable}
use Rattle.mappings.specs.Cells.{hits_from, hits, hit_count}
use Rattle.mappings.specs.HitCodes.{hit_codes}
use Rattle.mappings.proofs.Shared.{shared_same}
use Rattle.mappings.proofs.Hits.{hit_within, hit_in_pattern, hit_at_most}

module _ (p : List ℕ) where
  -- a code of p
  abbrev is_in : ℕ → Bool
  is_in x = ltb 0 (occ x p)

  length_hits : (at : ℕ) (xs : List ℕ) → length (hits_from p at xs) ≡ length (keep is_in xs)
  length_hits at [] = refl
  length_hits at (x ∷ xs) = go (is_in x) (length_hits (suc at) xs)
    where
      go : (b : Bool) → length (hits_from p (suc at) xs) ≡ length (keep is_in xs)
          → length (add_if b at (hits_from p (suc at) xs)) ≡ length (add_if b x (keep is_in xs))
      go true e = ap suc e
      go false e = e

  -- hit i of these entries stands at `index` among them: its code is code i of the hits, and before it stand i hits
  record Before (at : ℕ) (xs : List ℕ) (hit i : ℕ) : Type 0 where
    index : ℕ
    is : hit ≡ at + index
    code : get_or (keep is_in xs) i 0 ≡ get_or xs index 0
    before : keep is_in (take index xs) ≡ take i (keep is_in xs)

  hit_before : (at : ℕ) (xs : List ℕ) (i : ℕ) → i < length (hits_from p at xs) → Before at xs (get_or (hits_from p at xs) i 0) i
  hit_before at [] i h = absurd (not-suc-le-zero h)
  hit_before at (x ∷ xs) i h = go (is_in x) refl i h (λ k l. hit_before (suc at) xs k l)
    where
      go : (b : Bool) → is_in x ≡ b → (i : ℕ) → i < length (add_if b at (hits_from p (suc at) xs))
          → ((k : ℕ) → k < length (hits_from p (suc at) xs) → Before (suc at) xs (get_or (hits_from p (suc at) xs) k 0) k)
          → Before at (x ∷ xs) (get_or (add_if b at (hits_from p (suc at) xs)) i 0) i
      go true e zero h rec = record { index = 0; is = omega arith; code = rw e; before = refl }
      go true e (suc i) h rec =
          let r : Before (suc at) xs (get_or (hits_from p (suc at) xs) i 0) i = rec i (le_of_suc-le-suc h) in
          record { index = suc r.index; is = r.is ∙ omega arith; code = rw e r.code; before = rw e (ap (λ (l : List ℕ). x ∷ l) r.before) }
      go false e i h rec =
          let r : Before (suc at) xs (get_or (hits_from p (suc at) xs) i 0) i = rec i h in
          record { index = suc r.index; is = r.is ∙ omega arith; code = rw e r.code; before = rw e r.before }

  -- a code of p occurs as often among the hits as among all entries
  occ_keep : (y : ℕ) (s : List ℕ) → 1 ≤ occ y p → occ y (keep is_in s) ≡ occ y s
  occ_keep y [] h = refl
  occ_keep y (x ∷ s) h = go (occ_keep y s h) (is_in x) refl
    where
      go : occ y (keep is_in s) ≡ occ y s → (b : Bool) → is_in x ≡ b → occ y (add_if b x (keep is_in s)) ≡ bit (eqb y x) + occ y s
      go rec true e = ap (λ (n : ℕ). bit (eqb y x) + n) rec
      go rec false e =
          let other : y ≢ x = λ same. absurd (not-le_of_lt (rw same at h) (ltb-false 0 (occ x p) e)) in
          let none : bit (eqb y x) ≡ 0 = bit_other y x other in
          omega arith

module _ (task : Task) where
  pub length_hit_codes : length (hit_codes task) ≡ hit_count task
  unfolding hit_codes hit_count hits
  length_hit_codes = sym (length_hits task.pattern 0 task.text)

  at_hit : (i : ℕ) → i < hit_count task → Before task.pattern 0 task.text (get_or (hits task) i 0) i
  unfolding hit_count hits
  at_hit i h = hit_before task.pattern 0 task.text i h

  hit_is_index : (i : ℕ) (h : i < hit_count task) → (at_hit i h).index ≡ get_or (hits task) i 0
  hit_is_index i h = sym ((at_hit i h).is ∙ zero-add (at_hit i h).index)

  -- code i of the hits stands at hit i
  pub get_d_hit_codes : (i : ℕ) → i < hit_count task → get_or (hit_codes task) i 0 ≡ get_or task.text (get_or (hits task) i 0) 0
  unfolding hit_codes
  get_d_hit_codes i h = (at_hit i h).code ∙ ap (λ (n : ℕ). get_or task.text n 0) (hit_is_index i h)

  -- the hits before hit i, and up to it
  keep_before : (i : ℕ) → i < hit_count task → keep (is_in task.pattern) (take (get_or (hits task) i 0) task.text) ≡ take i (hit_codes task)
  unfolding hit_codes
  keep_before i h = ap (λ (n : ℕ). keep (is_in task.pattern) (take n task.text)) (sym (hit_is_index i h)) ∙ (at_hit i h).before

  keep_up_to : (i : ℕ) → i < hit_count task → keep (is_in task.pattern) (take (suc (get_or (hits task) i 0)) task.text) ≡ take (suc i) (hit_codes task)
  keep_up_to i h =
      let x : ℕ = get_or (hits task) i 0 in
      let code : ℕ = get_or task.text x 0 in
      ap (keep (is_in task.pattern)) (take-suc task.text x 0 (hit_within task i h))
      ∙ keep_append (is_in task.pattern) (take x task.text) (code ∷ [])
      ∙ ap₂ ◌++◌ (keep_before i h) (ap (λ (b : Bool). add_if b code []) (lt-ltb 0 (occ code task.pattern) (hit_in_pattern task i h)))
      ∙ ap (λ (c : ℕ). take i (hit_codes task) ++ c ∷ []) (sym (get_d_hit_codes i h))
      ∙ sym (take-suc (hit_codes task) i 0 (rw length_hit_codes h))

  -- the hits of [x i, x j] are those from i to j
  keep_interval : (i j : ℕ) → i ≤ j → j < hit_count task
      → keep (is_in task.pattern) (interval task.text (get_or (hits task) i 0) (get_or (hits task) j 0)) ≡ interval (hit_codes task) i j
  unfolding interval
  keep_interval i j l h =
      let a : ℕ = get_or (hits task) i 0 in
      let b : ℕ = get_or (hits task) j 0 in
      let inside : List ℕ = keep (is_in task.pattern) (drop a (take (suc b) task.text)) in
      let first : take a (take (suc b) task.text) ≡ take a task.text = take-take a (suc b) task.text (le_step (hit_at_most task i j l h)) in
      let joined : take (suc j) (hit_codes task) ≡ take i (hit_codes task) ++ inside =
      sym (keep_up_to j h)
      ∙ ap (keep (is_in task.pattern)) (sym (take-append-drop a (take (suc b) task.text)))
      ∙ keep_append (is_in task.pattern) (take a (take (suc b) task.text)) (drop a (take (suc b) task.text))
      ∙ ap (λ (s : List ℕ). keep (is_in task.pattern) s ++ inside) first
      ∙ ap (λ (s : List ℕ). s ++ inside) (keep_before i (omega arith))
      in
      sym (ap (drop i) joined ∙ drop_at (take i (hit_codes task)) inside i (length-take-le i (hit_codes task) (omega (arith, length_hit_codes))))

  -- a code of p occurs in [x i, x j] as often as among its hits
  cell_occ : (i j y : ℕ) → i ≤ j → j < hit_count task → 1 ≤ occ y task.pattern
      → occ y (interval task.text (get_or (hits task) i 0) (get_or (hits task) j 0)) ≡ occ y (interval (hit_codes task) i j)
  cell_occ i j y l h k =
      sym (occ_keep task.pattern y (interval task.text (get_or (hits task) i 0) (get_or (hits task) j 0)) k)
      ∙ ap (occ y) (keep_interval i j l h)

  -- m of a cell, by the codes of its hits
  pub cell_shared : (i j : ℕ) → i ≤ j → j < hit_count task
      → shared_of task (get_or (hits task) i 0) (get_or (hits task) j 0) ≡ shared task.pattern (interval (hit_codes task) i j)
  unfolding shared_of
  cell_shared i j l h =
      shared_same task.pattern (interval task.text (get_or (hits task) i 0) (get_or (hits task) j 0)) (interval (hit_codes task) i j)
      (λ y k. cell_occ i j y l h k)

  -- a hit of a cell is reasonable by the codes of its hits
  pub cell_reasonable : (i j n : ℕ) → i ≤ j → j < hit_count task → n < hit_count task
      → is_reasonable task (get_or (hits task) i 0) (get_or (hits task) j 0) (get_or (hits task) n 0)
      ≡ leb (occ (get_or (hit_codes task) n 0) (interval (hit_codes task) i j)) (occ (get_or (hit_codes task) n 0) task.pattern)
  unfolding is_reasonable
  cell_reasonable i j n l h k =
      rw (get_d_hit_codes n k)
      (ap (λ (c : ℕ). leb c (occ (get_or task.text (get_or (hits task) n 0) 0) task.pattern))
      (cell_occ i j (get_or task.text (get_or (hits task) n 0) 0) l h (hit_in_pattern task n k)))
