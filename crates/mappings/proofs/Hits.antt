-- The hits of a task: they rise strictly, and are the indices of the text whose code is in the pattern.
use Prim.Native.Nat.{ℕ, suc, ◌+◌, ◌≤◌, ◌<◌, zero-le}
use native.Mathlib.Nat.{eq-or-lt_of_le, le_of_eq, le_of_lt}
use native.Mathlib.Omega.{arith}
use mathlib.Core.Path.{◌≡◌, refl, sym, ap, ap₂, ◌∙◌}
use mathlib.Core.Logic.{◌⊎◌, inl, inr}
use mathlib.Core.Bool.{Bool}
use mathlib.Core.List.{List, [], ◌∷◌, Memᴰ}
use lib.Dec.{ltb}
use lib.ListN.{length, get_or, drop}
use lib.Seq.{get_or-drop, drop-drop}
use borrow.Author.Tests.{ltb-true, lt-ltb}
use Rattle.base.specs.Lists.{add_if, keep, range}
use Rattle.base.specs.Counts.{occ}
use Rattle.base.proofs.Lists.{keep_mem, mem_keep, range_mem, mem_range}
use Rattle.mappings.specs.Score.{Task}
use Rattle.mappings.specs.Cells.{hits_from, hits, hit_count}
use Rattle.mappings.proofs.Trim.{IsHit}
use Rattle.mappings.proofs.Rising.{get_d_mem, mem_get_d, Rises, rises_range, rises_keep, rises_once, rises_order}

-- the code at index i is in p
is_hit : List ℕ → List ℕ → ℕ → Bool
is_hit p t i = ltb 0 (occ (get_or t i 0) p)

hits_from_lem : (p t : List ℕ) (at : ℕ) (xs : List ℕ) → drop at t ≡ xs → hits_from p at xs ≡ keep (is_hit p t) (range at (length xs))
unfolding is_hit
hits_from_lem p t at [] e = refl
hits_from_lem p t at (x ∷ xs) e =
    let first : at ≡ at + 0 = omega arith in
    let next : suc at ≡ at + 1 = omega arith in
    let here : get_or t at 0 ≡ x = ap (λ (n : ℕ). get_or t n 0) first ∙ sym (get_or-drop at t 0 0) ∙ ap (λ (l : List ℕ). get_or l 0 0) e in
    let rest : drop (suc at) t ≡ xs = ap (λ (n : ℕ). drop n t) next ∙ sym (drop-drop 1 at t) ∙ ap (drop 1) e in
    ap₂ (λ (b : Bool) (l : List ℕ). add_if b at l) (ap (λ (y : ℕ). ltb 0 (occ y p)) (sym here)) (hits_from_lem p t (suc at) xs rest)

hits_keep : (task : Task) → hits task ≡ keep (is_hit task.pattern task.text) (range 0 (length task.text))
unfolding hits
hits_keep task = hits_from_lem task.pattern task.text 0 task.text refl

hits_rise : (task : Task) → Rises (hits task)
hits_rise task = rw (hits_keep task) (rises_keep (is_hit task.pattern task.text) (range 0 (length task.text)) (rises_range 0 (length task.text)))

hits_mem : (task : Task) {x : ℕ} → Memᴰ x (hits task) → (x < length task.text) × IsHit task.pattern task.text x
unfolding is_hit
hits_mem task {x} m =
    let k = keep_mem (is_hit task.pattern task.text) (range 0 (length task.text)) (rw (hits_keep task) at m) in
    let r : (0 ≤ x) × (x < 0 + length task.text) = range_mem 0 (length task.text) k.0 in
    (omega arith, ltb-true 0 (occ (get_or task.text x 0) task.pattern) k.1)

module _ (task : Task) where
  -- hit i is an index of the text
  pub hit_within : (i : ℕ) → i < hit_count task → get_or (hits task) i 0 < length task.text
  unfolding hit_count
  hit_within i h = (hits_mem task (get_d_mem 0 (hits task) i h)).0

  -- whose code is in p
  pub hit_in_pattern : (i : ℕ) → i < hit_count task → IsHit task.pattern task.text (get_or (hits task) i 0)
  unfolding hit_count
  hit_in_pattern i h = (hits_mem task (get_d_mem 0 (hits task) i h)).1

  -- and each such index is a hit
  pub hit_index : (x : ℕ) → x < length task.text → IsHit task.pattern task.text x
      → (i : ℕ) × (i < hit_count task) × (get_or (hits task) i 0 ≡ x)
  unfolding hit_count is_hit
  hit_index x h k =
      mem_get_d 0 (hits task)
      (rw (hits_keep task)
      (mem_keep (is_hit task.pattern task.text) (mem_range 0 (length task.text) zero-le (omega arith))
      (lt-ltb 0 (occ (get_or task.text x 0) task.pattern) k)))

  -- by one number only
  pub hit_once : (i j : ℕ) → i < hit_count task → j < hit_count task → get_or (hits task) i 0 ≡ get_or (hits task) j 0 → i ≡ j
  unfolding hit_count
  hit_once i j h k e = rises_once (hits task) (hits_rise task) i j h k e

  pub hit_at_most : (i j : ℕ) → i ≤ j → j < hit_count task → get_or (hits task) i 0 ≤ get_or (hits task) j 0
  unfolding hit_count
  hit_at_most i j h k = go (eq-or-lt_of_le h)
    where
      go : (i ≡ j) ⊎ (i < j) → get_or (hits task) i 0 ≤ get_or (hits task) j 0
      go (inl e) = le_of_eq (ap (λ (n : ℕ). get_or (hits task) n 0) e)
      go (inr l) = le_of_lt (hits_rise task i j l k)

  pub hit_order : (i j : ℕ) → i < hit_count task → get_or (hits task) i 0 ≤ get_or (hits task) j 0 → i ≤ j
  unfolding hit_count
  hit_order i j h e = rises_order (hits task) (hits_rise task) i j h e
