-- The cells of h hits: how many there are, where each stands in their order, and that each stands there once. Each final interval
-- is a cell.
use Prim.Native.Nat.{ℕ, zero, suc, ◌+◌, ◌-◌, ◌*◌, ◌/◌, ◌≤◌, ◌<◌}
use native.Mathlib.Nat.{le_refl, add-mul-div_left, not-suc-le-zero, le-suc_iff, le_of_eq, le_of_suc-le-suc, le_step}
use native.Mathlib.Omega.{arith}
use mathlib.Core.Path.{◌≡◌, refl, sym, ap, ap₂, ◌∙◌, subst}
use mathlib.Core.Logic.{◌⊎◌, inl, inr}
use mathlib.Core.Bool.{true, false}
use mathlib.Core.List.{List, [], ◌∷◌, Memᴰ}
use lib.Dec.{ltb}
use lib.ListN.{length, get_or, drop, length-append, length-map, get_or-map, get_or-append, drop_of_length-le}
use lib.Seq.{get_or-append-add, drop-cons}
use borrow.Author.Tests.{ltb-true, ltb-false}
use Rattle.base.specs.Lists.{range}
use Rattle.base.proofs.Lists.{length_range, get_d_range, decided}
use Rattle.mappings.specs.Score.{Task}
use Rattle.mappings.specs.Definition1.{Final}
use Rattle.mappings.specs.Cells.{hit_count, Cell, column, cells, cell_count, cells_of, left_end, right_end}
use Rattle.mappings.specs.Places.{place}
use Rattle.mappings.proofs.Rising.{get_d_mem, mem_get_d}
use Rattle.mappings.proofs.Trim.{IsHit}
use Rattle.mappings.proofs.Hits.{hit_index, hit_once, hit_order}
use Rattle.mappings.proofs.Definition1.{final_hit_left, final_hit_right}

-- cell (i, j)
abbrev pub cell_at : ℕ → ℕ → Cell
cell_at i j = record { row = i; column = j }

-- ---- how many

pub cell_count_suc : (h : ℕ) → cell_count (suc h) ≡ suc h + cell_count h
unfolding cell_count
cell_count_suc h =
    let e : suc h * suc (suc h) ≡ h * suc h + 2 * suc h = omega arith in
    ap (λ (n : ℕ). n / 2) e ∙ add-mul-div_left (h * suc h) (suc h) {y = 2} (omega arith) ∙ omega arith

-- more hits, more cells
pub cell_count_mono : (n h : ℕ) → n ≤ h → cell_count n ≤ cell_count h
cell_count_mono n zero l = let e : n ≡ 0 = omega arith in rw e (le_refl (cell_count 0))
cell_count_mono n (suc h) l = go (cell_count_mono n h) (le-suc_iff.0 l)
  where
    go : (n ≤ h → cell_count n ≤ cell_count h) → (n ≤ h) ⊎ (n ≡ suc h) → cell_count n ≤ cell_count (suc h)
    go rec (inl q) = omega (arith, rec q, cell_count_suc h)
    go rec (inr e) = le_of_eq (ap cell_count e)

length_column : (j n : ℕ) → length (column j n) ≡ n
unfolding column
length_column j n = length-map (range 0 n) (λ (i : ℕ). cell_at i j) ∙ length_range 0 n

pub length_cells : (h : ℕ) → length (cells h) ≡ cell_count h
unfolding cell_count
length_cells zero = refl
length_cells (suc h) = length-append (column h (suc h)) (cells h) ∙ ap₂ ◌+◌ (length_column h (suc h)) (length_cells h) ∙ sym (cell_count_suc h)

-- ---- where each stands

get_d_default : {A : Type 0} (l : List A) (i : ℕ) (d e : A) → i < length l → get_or l i d ≡ get_or l i e
get_d_default [] i d e h = absurd (not-suc-le-zero h)
get_d_default (x ∷ xs) zero d e h = refl
get_d_default (x ∷ xs) (suc i) d e h = get_d_default xs i d e (le_of_suc-le-suc h)

get_d_column : (j n i : ℕ) (d : Cell) → i < n → get_or (column j n) i d ≡ cell_at i j
unfolding column
get_d_column j n i d h =
    get_d_default (column j n) i d (cell_at 0 j) (rw (length_column j n) h)
    ∙ get_or-map (λ (x : ℕ). cell_at x j) (range 0 n) i 0
    ∙ ap (λ (x : ℕ). cell_at x j) (get_d_range 0 n i 0 h ∙ omega arith)

-- in column h, the first of h + 1
place_first : (h i : ℕ) → place (suc h) i h ≡ i
unfolding place
place_first h i = omega arith

-- in the columns after it
place_later : (h i j : ℕ) → j < h → place (suc h) i j ≡ suc h + place h i j
unfolding place
place_later h i j l =
    let s : cell_count (suc h) ≡ suc h + cell_count h = cell_count_suc h in
    let m : cell_count (suc j) ≤ cell_count h = cell_count_mono (suc j) h l in
    omega arith

cells_first : (h n : ℕ) (d : Cell) → n < suc h → get_or (cells (suc h)) n d ≡ cell_at n h
cells_first h n d l =
    get_or-append (column h (suc h)) (cells h) d n (rw (length_column h (suc h)) l)
    ∙ get_d_column h (suc h) n d l

cells_later : (h n : ℕ) (d : Cell) → get_or (cells (suc h)) (suc h + n) d ≡ get_or (cells h) n d
cells_later h n d =
    ap (λ (k : ℕ). get_or (cells (suc h)) (k + n) d) (sym (length_column h (suc h)))
    ∙ get_or-append-add (column h (suc h)) (cells h) n d

-- cell (i, j) stands at its place
pub get_d_cells : (h i j : ℕ) (d : Cell) → i ≤ j → j < h → get_or (cells h) (place h i j) d ≡ cell_at i j
get_d_cells zero i j d l k = absurd (not-suc-le-zero k)
get_d_cells (suc h) i j d l k = go (λ q. get_d_cells h i j d l q) (le-suc_iff.0 k)
  where
    go : (j < h → get_or (cells h) (place h i j) d ≡ cell_at i j) → (j < h) ⊎ (suc j ≡ suc h)
        → get_or (cells (suc h)) (place (suc h) i j) d ≡ cell_at i j
    go rec (inl q) = ap (λ (n : ℕ). get_or (cells (suc h)) n d) (place_later h i j q) ∙ cells_later h (place h i j) d ∙ rec q
    go rec (inr e) =
        let same : j ≡ h = omega arith in
        rw same (ap (λ (n : ℕ). get_or (cells (suc h)) n d) (place_first h i) ∙ cells_first h i d (omega arith))

-- a cell of h hits, and the number of cells before it
pub record Stands (h n : ℕ) (cell : Cell) : Type 0 where
  pub ordered : cell.row ≤ cell.column
  pub within : cell.column < h
  pub number : place h cell.row cell.column ≡ n

-- what stands at each number is a cell, and that is its place
pub stands : (h n : ℕ) (d : Cell) → n < cell_count h → Stands h n (get_or (cells h) n d)
unfolding cell_count
stands zero n d l = absurd (not-suc-le-zero l)
stands (suc h) n d l = go (λ q. stands h (n - suc h) d q) (decided (ltb n (suc h)))
  where
    go : (n - suc h < cell_count h → Stands h (n - suc h) (get_or (cells h) (n - suc h) d)) → (ltb n (suc h) ≡ true) ⊎ (ltb n (suc h) ≡ false)
        → Stands (suc h) n (get_or (cells (suc h)) n d)
    go rec (inl t) =
        let q : n < suc h = ltb-true n (suc h) t in
        rw (cells_first h n d q) (record { ordered = le_of_suc-le-suc q; within = le_refl (suc h); number = place_first h n })
    go rec (inr f) =
        let q : suc h ≤ n = ltb-false n (suc h) f in
        let e : n ≡ suc h + (n - suc h) = omega arith in
        let s : cell_count (suc h) ≡ suc h + cell_count h = cell_count_suc h in
        let r : Stands h (n - suc h) (get_or (cells h) (n - suc h) d) = rec (omega arith) in
        let same : get_or (cells (suc h)) n d ≡ get_or (cells h) (n - suc h) d = ap (λ (k : ℕ). get_or (cells (suc h)) k d) e ∙ cells_later h (n - suc h) d in
        rw same (record {
          ordered = r.ordered;
          within = le_step r.within;
          number = place_later h (get_or (cells h) (n - suc h) d).row (get_or (cells h) (n - suc h) d).column r.within
              ∙ ap (λ (k : ℕ). suc h + k) r.number ∙ sym e;
        })

-- each cell stands there once
pub cells_once : (h n m : ℕ) (d : Cell) → n < cell_count h → m < cell_count h → get_or (cells h) n d ≡ get_or (cells h) m d → n ≡ m
cells_once h n m d k l e =
    sym (stands h n d k).number
    ∙ ap (λ (cell : Cell). place h cell.row cell.column) e
    ∙ (stands h m d l).number

-- the place of a cell is a number of one
pub place_within : (h i j : ℕ) → i ≤ j → j < h → place h i j < cell_count h
unfolding place
place_within h i j l k =
    let s : cell_count (suc j) ≡ suc j + cell_count j = cell_count_suc j in
    let m : cell_count (suc j) ≤ cell_count h = cell_count_mono (suc j) h k in
    omega arith

-- the cells are the pairs (i, j), i ≤ j < h
mem_cells : (h i j : ℕ) → i ≤ j → j < h → Memᴰ (cell_at i j) (cells h)
mem_cells h i j l k =
    subst (λ (cell : Cell). Memᴰ cell (cells h)) (get_d_cells h i j (cell_at 0 0) l k)
    (get_d_mem (cell_at 0 0) (cells h) (place h i j) (rw (length_cells h) (place_within h i j l k)))

cells_mem : (h : ℕ) {cell : Cell} → Memᴰ cell (cells h) → (cell.row ≤ cell.column) × (cell.column < h)
cells_mem h {cell} m =
    let r = mem_get_d (cell_at 0 0) (cells h) m in
    let s : Stands h r.0 (get_or (cells h) r.0 (cell_at 0 0)) = stands h r.0 (cell_at 0 0) (rw (length_cells h) at r.1) in
    let t : Stands h r.0 cell = rw r.2 at s in
    (t.ordered, t.within)

-- ---- from one cell to the next

-- the cells from (i, j) on: that cell, and the rest
pub drop_cells : (h i j : ℕ) → i ≤ j → j < h → drop (place h i j) (cells h) ≡ cell_at i j ∷ drop (suc (place h i j)) (cells h)
drop_cells h i j l k =
    drop-cons (cells h) (place h i j) (cell_at 0 0) (rw (length_cells h) (place_within h i j l k))
    ∙ ap (λ (cell : Cell). cell ∷ drop (suc (place h i j)) (cells h)) (get_d_cells h i j (cell_at 0 0) l k)

-- the next of (i, j) in its column
pub place_row : (h i j : ℕ) → place h (suc i) j ≡ suc (place h i j)
unfolding place
place_row h i j = omega arith

-- the next of (j, j), in the column before
pub place_column : (h j : ℕ) → suc j < h → place h 0 j ≡ suc (place h (suc j) (suc j))
unfolding place
place_column h j k =
    let s : cell_count (suc (suc j)) ≡ suc (suc j) + cell_count (suc j) = cell_count_suc (suc j) in
    let m : cell_count (suc (suc j)) ≤ cell_count h = cell_count_mono (suc (suc j)) h k in
    omega arith

-- (0, 0) is the last
pub place_last : (h : ℕ) → 0 < h → suc (place h 0 0) ≡ cell_count h
unfolding place
place_last h k =
    let m : cell_count 1 ≤ cell_count h = cell_count_mono 1 h k in
    let o : cell_count 1 ≡ 1 = unfold cell_count in refl in
    omega arith

pub drop_all_cells : (h : ℕ) → drop (cell_count h) (cells h) ≡ []
drop_all_cells h = drop_of_length-le (cells h) (le_of_eq (length_cells h))

-- ---- final intervals are cells

-- the cell of two hits
hits_cell : (task : Task) (a b : ℕ) → a ≤ b → b < length task.text → IsHit task.pattern task.text a → IsHit task.pattern task.text b
    → (cell : Cell) × Memᴰ cell (cells_of task) × (left_end task cell ≡ a) × (right_end task cell ≡ b)
unfolding cells_of left_end right_end
hits_cell task a b l k hit-a hit-b =
    let first = hit_index task a (omega arith) hit-a in
    let last = hit_index task b k hit-b in (
      cell_at first.0 last.0,
      mem_cells (hit_count task) first.0 last.0 (hit_order task first.0 last.0 first.1 (rw (first.2, last.2) l)) last.1,
      first.2,
      last.2,
    )

pub final_cell : (task : Task) (a b : ℕ) → Final task a b
    → (cell : Cell) × Memᴰ cell (cells_of task) × (left_end task cell ≡ a) × (right_end task cell ≡ b)
final_cell task a b f = hits_cell task a b f.ordered f.within (final_hit_left task a b f) (final_hit_right task a b f)

-- different cells have different ends
pub ends_once : (task : Task) {cell other : Cell} → Memᴰ cell (cells_of task) → Memᴰ other (cells_of task)
    → left_end task cell ≡ left_end task other
    → right_end task cell ≡ right_end task other → cell ≡ other
unfolding cells_of left_end right_end
ends_once task {cell} {other} m n e f =
    let k = cells_mem (hit_count task) m in
    let l = cells_mem (hit_count task) n in
    ap₂ cell_at (hit_once task cell.row other.row (omega arith) (omega arith) e)
    (hit_once task cell.column other.column (omega arith) (omega arith) f)
