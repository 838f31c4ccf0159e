-- The final mappings among cells, by the test and by the statement: the same list, in which each stands once.
use Prim.Native.Nat.{ℕ, zero, suc, ◌<◌, suc-le-suc}
use native.Mathlib.Nat.{zero-lt-suc, suc_inj, suc-ne-zero}
use mathlib.Core.Path.{◌≡◌, refl, sym, ap, ◌∙◌, subst}
use mathlib.Core.Logic.{◌⊎◌, inl, inr}
use mathlib.Core.Bool.{Bool, true, false}
use mathlib.Core.List.Memᴰ
use mathlib.Core.List.{List, [], ◌∷◌, map, Memᴰ}
use lib.ListN.{length, get_or, take, drop, take-append-drop}
use Rattle.base.specs.Lists.{add_if, keep}
use Rattle.base.proofs.Lists.{decided, clash, keep_mem, mem_keep}
use Rattle.mappings.specs.Score.{Task}
use Rattle.mappings.specs.Definition1.{Final}
use Rattle.mappings.specs.Cells.{Cell, Mapping, mapping_of, cells, cells_of, hit_count, left_end, right_end}
use Rattle.mappings.specs.FinalTest.{is_final_cell}
use Rattle.mappings.specs.Demand.{FinalsAmong, no_cells, with_final, without, EachOnce, Among}
use Rattle.mappings.proofs.Rising.{mem_get_d}
use Rattle.mappings.proofs.Definition1.{test_final, final_test}
use Rattle.mappings.proofs.Cells.{cell_at, length_cells, cells_once, final_cell, ends_once}
use Rattle.mappings.proofs.Rule.{finals_of}

-- the list by the test is the list by the statement
pub finals_among : (task : Task) (cells : List Cell) → FinalsAmong task cells (finals_of task cells)
unfolding is_final_cell
finals_among task [] = no_cells
finals_among task (cell ∷ rest) = go (finals_among task rest) (decided (is_final_cell task cell))
  where
    go : FinalsAmong task rest (finals_of task rest) → (is_final_cell task cell ≡ true) ⊎ (is_final_cell task cell ≡ false)
        → FinalsAmong task (cell ∷ rest) (finals_of task (cell ∷ rest))
    go rec (inl e) = rw e (with_final (test_final task (left_end task cell) (right_end task cell) e) rec)
    go rec (inr e) = rw e (without (λ f. clash (final_test task (left_end task cell) (right_end task cell) f) e) rec)

pub finals_list : (task : Task) {cells : List Cell} {mappings : List Mapping} → FinalsAmong task cells mappings → mappings ≡ finals_of task cells
unfolding is_final_cell
finals_list task no_cells = refl
finals_list task (with_final {cell = cell} f among) =
    rw (final_test task (left_end task cell) (right_end task cell) f) (ap (λ (l : List Mapping). mapping_of task cell ∷ l) (finals_list task among))
finals_list task (without {cell = cell} {cells = rest} n among) = go (finals_list task among) (decided (is_final_cell task cell))
  where
    go : {mappings : List Mapping} → mappings ≡ finals_of task rest → (is_final_cell task cell ≡ true) ⊎ (is_final_cell task cell ≡ false)
        → mappings ≡ finals_of task (cell ∷ rest)
    go rec (inl e) = absurd (n (test_final task (left_end task cell) (right_end task cell) e))
    go rec (inr e) = rw e rec

-- no element of the list stands in it again
abbrev Different : List Cell → Type 0
Different [] = Unit {0}
Different (cell ∷ rest) = (¬ Memᴰ cell rest) × Different rest

different : (d : Cell) (l : List Cell) → ((n k : ℕ) → n < length l → k < length l → get_or l n d ≡ get_or l k d → n ≡ k) → Different l
different d [] once = tt
different d (cell ∷ rest) once = (
  λ m. (let at =
      mem_get_d d rest m in absurd (suc-ne-zero at.0 (sym (once 0 (suc at.0) (zero-lt-suc (length rest)) (suc-le-suc at.1) (sym at.2))))),
  different d rest (λ n k l₁ l₂ e. suc_inj (once (suc n) (suc k) (suc-le-suc l₁) (suc-le-suc l₂) e)),
)

take_mem : {cell : Cell} (n : ℕ) (l : List Cell) → Memᴰ cell (take n l) → Memᴰ cell l
take_mem n l m = subst (Memᴰ _) (take-append-drop n l) (Memᴰ.append_left (drop n l) m)

different_take : (n : ℕ) (l : List Cell) → Different l → Different (take n l)
different_take zero l h = tt
different_take (suc n) [] h = tt
different_take (suc n) (cell ∷ rest) h = (λ m. h.0 (take_mem n rest m), different_take n rest h.1)

different_keep : (f : Cell → Bool) (l : List Cell) → Different l → Different (keep f l)
different_keep f [] h = tt
different_keep f (cell ∷ rest) h = go (f cell) (different_keep f rest h.1)
  where
    go : (b : Bool) → Different (keep f rest) → Different (add_if b cell (keep f rest))
    go true rec = (λ m. h.0 (keep_mem f rest m).0, rec)
    go false rec = rec

map_mem : (task : Task) {mapping : Mapping} (l : List Cell) → Memᴰ mapping (map (mapping_of task) l)
    → (cell : Cell) × Memᴰ cell l × (mapping ≡ mapping_of task cell)
map_mem task [] m = absurd (Memᴰ.not-nil m)
map_mem task (cell ∷ rest) (Memᴰ.head e) = (cell, Memᴰ.head refl, e)
map_mem task (cell ∷ rest) (Memᴰ.tail m) = let r = map_mem task rest m in (r.0, Memᴰ.tail r.1, r.2)

mem_map : {A B : Type 0} (f : A → B) {x : A} {l : List A} → Memᴰ x l → Memᴰ (f x) (map f l)
mem_map f (Memᴰ.head e) = Memᴰ.head (ap f e)
mem_map f (Memᴰ.tail m) = Memᴰ.tail (mem_map f m)

-- different cells give different mappings
map_once : (task : Task) (l : List Cell) → ((cell : Cell) → Memᴰ cell l → Memᴰ cell (cells_of task)) → Different l
    → EachOnce (map (mapping_of task) l)
unfolding mapping_of
map_once task [] part h = tt
map_once task (cell ∷ rest) part h = (
  λ other m ends.
      (let from = map_mem task rest m in
      let same : cell ≡ from.0 =
      ends_once task (part cell (Memᴰ.head refl)) (part from.0 (Memᴰ.tail from.1))
      (ends.0 ∙ ap (λ (x : Mapping). x.a) from.2)
      (ends.1 ∙ ap (λ (x : Mapping). x.b) from.2)
      in
      h.0 (subst (λ (c : Cell). Memᴰ c rest) (sym same) from.1)),
  map_once task rest (λ c m. part c (Memᴰ.tail m)) h.1,
)

-- the final mappings among the first q cells stand there once each
pub finals_once : (task : Task) (q : ℕ) → EachOnce (finals_of task (take q (cells_of task)))
unfolding cells_of
finals_once task q =
    let h : ℕ = hit_count task in
    let once : (n k : ℕ) → n < length (cells h) → k < length (cells h) → get_or (cells h) n (cell_at 0 0) ≡ get_or (cells h) k (cell_at 0 0) → n ≡ k =
    λ n k l₁ l₂ e. cells_once h n k (cell_at 0 0) (rw (length_cells h) at l₁) (rw (length_cells h) at l₂) e
    in
    map_once task (keep (is_final_cell task) (take q (cells h)))
    (λ cell m. take_mem q (cells h) (keep_mem (is_final_cell task) (take q (cells h)) m).0)
    (different_keep (is_final_cell task) (take q (cells h)) (different_take q (cells h) (different (cell_at 0 0) (cells h) once)))

-- a final mapping of the whole text is among those of all cells
pub final_among : (task : Task) (a b : ℕ) → Final task a b → Among (finals_of task (cells_of task)) a b
unfolding is_final_cell mapping_of
final_among task a b f =
    let at = final_cell task a b f in
    let test : is_final_cell task at.0 ≡ true = rw (at.2, at.3) (final_test task a b f) in
    (mapping_of task at.0, mem_map (mapping_of task) (mem_keep (is_final_cell task) at.1 test), at.2, at.3)
