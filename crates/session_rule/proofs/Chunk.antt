-- What passing the next rows of a column in the words of a session comes to: the next cells by the rule, up to the first final one.
use Prim.Native.Nat.{ℕ, suc, ◌+◌, ◌≤◌, ◌<◌}
use native.Mathlib.Omega.{arith}
use mathlib.Core.Path.{◌≡◌, refl, sym, ap, ◌∙◌}
use mathlib.Core.Bool.{true, false}
use mathlib.Core.List.{List}
use lib.ListN.{length, get_or}
use Rattle.mappings.specs.Score.{Task}
use Rattle.mappings.specs.Cells.{hits, hit_count, mapping_of}
use Rattle.mappings.specs.FinalTest.{is_final_cell}
use Rattle.mappings.specs.HitCodes.{hit_codes}
use Rattle.mappings.specs.Places.{place}
use Rattle.mappings.specs.Rule.{Answer, found, finished, spent, refused, rule_answer}
use Rattle.mappings.specs.Steps.{more_cells}
use Rattle.mappings.proofs.Cells.{cell_at}
use Rattle.mappings.proofs.Rule.{more_cells_lem}
use Rattle.session_words.specs.Layout.{block_count, part_length}
use Rattle.session_records.specs.Records.{highest_before, block_top}
use Rattle.session_start.specs.Tables.{reach, start_of}
use Rattle.session_start.specs.WorkWords.{order_of, best_after}
use Rattle.session_start.proofs.WorkWords.{Outside}
use Rattle.session_cells.specs.Passing.{reach_at, best_at, top_at, start_at, Update}
use Rattle.session_rule.specs.Lines.{shared_at}
use Rattle.session_rule.proofs.Knowing.{least}

pub more_none : (answer : Answer) → more_cells 0 answer ≡ answer
more_none (found mapping cells) = let e : 0 + cells ≡ cells = omega arith in ap (found mapping) e
more_none (finished cells) = let e : 0 + cells ≡ cells = omega arith in ap finished e
more_none (spent cells) = let e : 0 + cells ≡ cells = omega arith in ap spent e
more_none (refused number) = refl

module _ (task : Task) where
  -- what the part of the work words that a column is lent holds after q cells, in column j
  pub record PartHolds (j q : ℕ) (part : List ℕ) : Type 0 where
    pub number : length part ≡ part_length
    pub index_word : (i : ℕ) → i < hit_count task → get_or part i 0 ≡ get_or (hits task) i 0
    pub reach_word : (i : ℕ) → i < hit_count task → get_or part (reach_at i) 0 ≡ reach task.pattern (hit_codes task) i
    pub best_word : (i : ℕ) → i < hit_count task → get_or part (best_at i) 0 ≡ get_or (best_after task q) i 0
    pub top_word : (b : ℕ) → b < block_count (hit_count task) → get_or part (top_at b) 0 ≡ block_top (order_of task) (best_after task q) b
    pub start_word : (b : ℕ) → b ≤ block_count (hit_count task) → get_or part (start_at b) 0 ≡ start_of task.pattern (hit_codes task) (suc j) b

  -- words outside the column in hand and the tops of its blocks stay
  abbrev pub SameOutside : List ℕ → List ℕ → Type 0
  SameOutside part part' =
      (n : ℕ) → Outside (best_at 0) (hit_count task) n → Outside (top_at 0) (block_count (hit_count task)) n → get_or part' n 0 ≡ get_or part n 0

  -- m of the cell of row i, and the greatest of the threshold and of the records in the rows before it, where it stands in column j
  abbrev pub Known : ℕ → ℕ → ℕ → ℕ → ℕ → Type 0
  Known j i q m highest = i ≤ j → (m ≡ shared_at task i j) × (highest ≡ highest_before (order_of task) (least task) (best_after task q) i)

  -- the next cell is that of row i, after q cells
  pub record At (j i q m highest : ℕ) (part : List ℕ) : Type 0 where
    pub place_is : place (hit_count task) i j ≡ q
    pub known : Known j i q m highest
    pub holds : PartHolds j q part

  -- what passing n cells from (i, j) on comes to, where q cells have been passed
  pub data Chunk (j i n q : ℕ) (part : List ℕ) (update : Update) : Type 0 where
    all_passed : update.answer.found ≡ false → update.answer.row ≡ i + n
        → Known j (i + n) (q + n) update.answer.m update.answer.highest
        → PartHolds j (q + n) update.part → SameOutside part update.part
        → ((B : ℕ) → rule_answer task q (n + B) ≡ more_cells n (rule_answer task (q + n) B)) → Chunk j i n q part update
    one_found : (k : ℕ) → suc k ≤ n → update.answer.found ≡ true → update.answer.row ≡ suc (i + k)
        → update.answer.m + 1 ≡ shared_at task (i + k) j → is_final_cell task (cell_at (i + k) j) ≡ true
        → Known j (suc (i + k)) (q + suc k) update.answer.m update.answer.highest
        → PartHolds j (q + suc k) update.part
        → SameOutside part update.part → ((B : ℕ) → rule_answer task q (suc k + B) ≡ found (mapping_of task (cell_at (i + k) j)) (suc k))
        → Chunk j i n q part update

  -- no cells
  pub none : (j i q m highest : ℕ) (part : List ℕ) (update : Update) → At j i q m highest part → update.answer.found ≡ false
      → update.answer.row ≡ i → update.answer.m ≡ m → update.answer.highest ≡ highest → update.part ≡ part → Chunk j i 0 q part update
  none j i q m highest part update at f er em eh ep =
      let e : i + 0 ≡ i = omega arith in
      let g : q + 0 ≡ q = omega arith in
      all_passed f (er ∙ sym e) (rw (e, g, em, eh) at.known) (rw (g, ep) at.holds) (λ n o o'. ap (λ (l : List ℕ). get_or l n 0) ep)
      (λ B. (let z : 0 + B ≡ B = omega arith in rw (g, z) (sym (more_none (rule_answer task q B)))))

  -- n cells of which none is final, and then the others
  pub join : (j i i' n k t q q' : ℕ) (part part' : List ℕ) (update : Update) → i' ≡ i + n → q' ≡ q + n → t ≡ n + k
      → SameOutside part part' → ((B : ℕ) → rule_answer task q (n + B) ≡ more_cells n (rule_answer task q' B)) → Chunk j i' k q' part' update
      → Chunk j i t q part update
  join j i i' n k t q q' part part' update ei eq et same pass (all_passed f r known holds out rule) =
      let e : i' + k ≡ i + t = omega arith in
      let g : q' + k ≡ q + t = omega arith in
      all_passed f (r ∙ e) (rw (e, g) at known) (rw g at holds) (λ n o o'. out n o o' ∙ same n o o')
      (λ B. (let s : t + B ≡ n + (k + B) = omega arith in
      ap (rule_answer task q) s ∙ pass (k + B) ∙ ap (more_cells n) (rule B) ∙ more_cells_lem n k (rule_answer task (q' + k) B)
      ∙ ap (λ (c : ℕ). more_cells c (rule_answer task (q' + k) B)) (sym et) ∙ ap (λ (c : ℕ). more_cells t (rule_answer task c B)) g))
  join j i i' n k t q q' part part' update ei eq et same pass (one_found c within f r em final known holds out rule) =
      let e : i' + c ≡ i + (n + c) = omega arith in
      let g : q' + suc c ≡ q + suc (n + c) = omega arith in
      one_found (n + c) (omega arith) f (r ∙ ap suc e) (em ∙ ap (λ (x : ℕ). shared_at task x j) e) (rw e at final) (rw (e, g) at known)
      (rw g at holds) (λ n o o'. out n o o' ∙ same n o o')
      (λ B. (let s : suc (n + c) + B ≡ n + (suc c + B) = omega arith in
      let w : n + suc c ≡ suc (n + c) = omega arith in
      ap (rule_answer task q) s ∙ pass (suc c + B) ∙ ap (more_cells n) (rule B) ∙ ap (found (mapping_of task (cell_at (i' + c) j))) w
      ∙ ap (λ (x : ℕ). found (mapping_of task (cell_at x j)) (suc (n + c))) e))
