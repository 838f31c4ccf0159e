-- Definition 1's test is its statement; a final interval ends on hits; and to be maximal among all intervals is to be maximal among
-- cells.
use Prim.Native.Nat.{ℕ, zero, suc, ◌+◌, ◌-◌, ◌≤◌, ◌<◌, zero-le}
use native.Mathlib.Nat.{le_trans, le_refl}
use native.Mathlib.Omega.{arith}
use mathlib.Core.Path.{◌≡◌}
use mathlib.Core.Bool.{Bool, true, ◌&&◌}
use mathlib.Core.List.{List}
use lib.Dec.{leb, ltb, eqb}
use lib.ListN.{length, get_or}
use borrow.Author.Tests.{leb-true, le-leb, ltb-true, lt-ltb}
use Rattle.base.specs.Lists.{bit, every, range}
use Rattle.base.specs.Counts.{occ}
use Rattle.base.proofs.Lists.{same_test, and_both, and_left, and_right, every_mem, mem_every, mem_range, range_mem}
use Rattle.base.proofs.Counts.{bit_same}
use Rattle.mappings.specs.declared.Score.{Score}
use Rattle.mappings.specs.Score.{Task, interval, scored, threshold_of, at_most, length_of, shared_of, score_of}
use Rattle.mappings.specs.Scored.{Scored}
use Rattle.mappings.specs.Definition1.{Reasonable, AtMost, Final}
use Rattle.mappings.specs.FinalTest.{is_reasonable, is_maximal, is_final}
use Rattle.mappings.specs.Cells.{hits, hit_count}
use Rattle.mappings.proofs.Shared.{more_left, more_right}
use Rattle.mappings.proofs.Trim.{IsHit, some_entry, Trimmed, trim}
use Rattle.mappings.proofs.Scores.{scores}
use Rattle.mappings.proofs.Hits.{hit_within, hit_in_pattern, hit_index, hit_at_most, hit_order}

-- no interval that contains [a, b] scores more
abbrev pub Maximal : Task → ℕ → ℕ → Type 0
Maximal task a b = (c d : ℕ) → c ≤ a → b ≤ d → d < length task.text → AtMost (score_of task c d) (score_of task a b)

maximal_statement : (task : Task) (a b : ℕ) → is_maximal task a b ≡ true → Maximal task a b
unfolding is_maximal AtMost
maximal_statement task a b e c d h k l =
    every_mem (λ (x : ℕ). at_most (score_of task c x) (score_of task a b))
    (every_mem (λ (y : ℕ). every (λ (x : ℕ). at_most (score_of task y x) (score_of task a b)) (range b (length task.text - b))) e
    (mem_range 0 (suc a) zero-le (omega arith)))
    (mem_range b (length task.text - b) k (omega arith))

statement_maximal : (task : Task) (a b : ℕ) → Maximal task a b → is_maximal task a b ≡ true
unfolding is_maximal AtMost
statement_maximal task a b m =
    mem_every (λ (y : ℕ). every (λ (x : ℕ). at_most (score_of task y x) (score_of task a b)) (range b (length task.text - b))) (range 0 (suc a))
    (λ c i.
    mem_every (λ (x : ℕ). at_most (score_of task c x) (score_of task a b)) (range b (length task.text - b))
    (λ d j.
    (let r : (0 ≤ c) × (c < 0 + suc a) = range_mem 0 (suc a) i in
    let s : (b ≤ d) × (d < b + (length task.text - b)) = range_mem b (length task.text - b) j in
    m c d (omega arith) s.0 (omega arith))))

-- six tests pass together when each does
all_six : (b₁ b₂ b₃ b₄ b₅ b₆ : Bool) → (b₁ && b₂ && b₃ && b₄ && b₅ && b₆) ≡ true
    → (b₁ ≡ true) × (b₂ ≡ true) × (b₃ ≡ true) × (b₄ ≡ true) × (b₅ ≡ true) × (b₆ ≡ true)
all_six b₁ b₂ b₃ b₄ b₅ b₆ h₆ =
    let h₅ = and_left (b₁ && b₂ && b₃ && b₄ && b₅) b₆ h₆ in
    let h₄ = and_left (b₁ && b₂ && b₃ && b₄) b₅ h₅ in
    let h₃ = and_left (b₁ && b₂ && b₃) b₄ h₄ in
    let h₂ = and_left (b₁ && b₂) b₃ h₃ in (
      and_left b₁ b₂ h₂,
      and_right b₁ b₂ h₂,
      and_right (b₁ && b₂) b₃ h₃,
      and_right (b₁ && b₂ && b₃) b₄ h₄,
      and_right (b₁ && b₂ && b₃ && b₄) b₅ h₅,
      and_right (b₁ && b₂ && b₃ && b₄ && b₅) b₆ h₆,
    )

-- the test tells that [a, b] is final
pub test_final : (task : Task) (a b : ℕ) → is_final task a b ≡ true → Final task a b
unfolding is_final is_reasonable Reasonable AtMost
test_final task a b e =
    let each = all_six (leb a b) (ltb b (length task.text)) (at_most (threshold_of task.scoring) (score_of task a b)) (is_reasonable task a b a)
    (is_reasonable task a b b) (is_maximal task a b) e in
    record {
      ordered = leb-true a b each.0;
      within = ltb-true b (length task.text) each.1;
      enough = each.2;
      left = leb-true (occ (get_or task.text a 0) (interval task.text a b)) (occ (get_or task.text a 0) task.pattern) each.3;
      right = leb-true (occ (get_or task.text b 0) (interval task.text a b)) (occ (get_or task.text b 0) task.pattern) each.4;
      maximal = maximal_statement task a b each.5;
    }

-- and passes wherever it is
pub final_test : (task : Task) (a b : ℕ) → Final task a b → is_final task a b ≡ true
unfolding is_final is_reasonable Reasonable AtMost
final_test task a b f =
    and_both
    (and_both
    (and_both
    (and_both (and_both (le-leb a b f.ordered) (lt-ltb b (length task.text) f.within)) f.enough)
    (le-leb (occ (get_or task.text a 0) (interval task.text a b)) (occ (get_or task.text a 0) task.pattern) f.left))
    (le-leb (occ (get_or task.text b 0) (interval task.text a b)) (occ (get_or task.text b 0) task.pattern) f.right))
    (statement_maximal task a b f.maximal)

-- ---- the ends of a final interval

-- the code at an end occurs in the interval
occ_left_end : (t : List ℕ) (a b : ℕ) → a ≤ b → b < length t → 1 ≤ occ (get_or t a 0) (interval t a b)
occ_left_end t a b h k =
    let e : occ (get_or t a 0) (interval t a b) ≡ bit (eqb (get_or t a 0) (get_or t a 0)) + occ (get_or t a 0) (interval t (suc a) b) =
    more_left t a b h k (get_or t a 0) in
    let one : bit (eqb (get_or t a 0) (get_or t a 0)) ≡ 1 = bit_same (get_or t a 0) in
    omega arith

occ_right_end : (t : List ℕ) (a b : ℕ) → a ≤ b → b < length t → 1 ≤ occ (get_or t b 0) (interval t a b)
occ_right_end t a zero h k = let same : a ≡ 0 = omega arith in rw same (occ_left_end t 0 0 (le_refl 0) k)
occ_right_end t a (suc b) h k =
    let e : occ (get_or t (suc b) 0) (interval t a (suc b)) ≡ bit (eqb (get_or t (suc b) 0) (get_or t (suc b) 0)) + occ (get_or t (suc b) 0) (interval t a b) =
    more_right t a b h k (get_or t (suc b) 0) in
    let one : bit (eqb (get_or t (suc b) 0) (get_or t (suc b) 0)) ≡ 1 = bit_same (get_or t (suc b) 0) in
    omega arith

pub final_hit_left : (task : Task) (a b : ℕ) → Final task a b → IsHit task.pattern task.text a
unfolding Reasonable
final_hit_left task a b f = le_trans (occ_left_end task.text a b f.ordered f.within) f.left

pub final_hit_right : (task : Task) (a b : ℕ) → Final task a b → IsHit task.pattern task.text b
unfolding Reasonable
final_hit_right task a b f = le_trans (occ_right_end task.text a b f.ordered f.within) f.right

-- ---- maximal among cells

-- no cell that contains cell (i, j) scores more
abbrev pub MaximalCell : Task → ℕ → ℕ → Type 0
MaximalCell task i j =
    (i' j' : ℕ)
    → i' ≤ i
    → j ≤ j'
    → j' < hit_count task
    → AtMost (score_of task (get_or (hits task) i' 0) (get_or (hits task) j' 0)) (score_of task (get_or (hits task) i 0) (get_or (hits task) j 0))

maximal_cell : (task : Task) (i j : ℕ) → i ≤ j → j < hit_count task → Maximal task (get_or (hits task) i 0) (get_or (hits task) j 0)
    → MaximalCell task i j
maximal_cell task i j h k m i' j' p q l =
    m (get_or (hits task) i' 0) (get_or (hits task) j' 0) (hit_at_most task i' i p (omega arith)) (hit_at_most task j j' q l) (hit_within task j' l)

cell_maximal : (task : Task) (i j : ℕ) → i ≤ j → j < hit_count task → MaximalCell task i j
    → Maximal task (get_or (hits task) i 0) (get_or (hits task) j 0)
unfolding AtMost score_of shared_of
cell_maximal task i j h k m c d p q l =
    let x : ℕ → ℕ = λ n. get_or (hits task) n 0 in
    let score : ℕ → ℕ → Score = scored task.scoring (length task.pattern) in
    let laws : Scored Score at_most score = scores task.scoring (length task.pattern) in
    let r : Trimmed at_most score task.pattern task.text (x i) (x j) c d =
    trim at_most score laws task.pattern task.text
    (x i) (x j) c d p (hit_at_most task i j h k) q l (hit_in_pattern task i (omega arith)) (hit_in_pattern task j k)
    in
    let first = hit_index task r.left (omega (arith, hit_within task i (omega arith))) r.hit_left in
    let last = hit_index task r.right (omega arith) r.hit_right in
    let wider : at_most (score_of task (x first.0) (x last.0)) (score_of task (x i) (x j)) ≡ true =
    m first.0 last.0 (hit_order task first.0 i first.1 (rw first.2 r.contains_left))
    (hit_order task j last.0 k (rw last.2 r.contains_right)) last.1
    in
    let ends : r.left ≤ r.right = omega (arith, hit_at_most task i j h k) in
    laws.transitive (score_of task c d) (score_of task (x i) (x j)) (shared_of task r.left r.right) (length_of r.left r.right)
    (some_entry r.left r.right ends) r.more (rw (first.2, last.2) at wider)

-- a cell's test: three conditions, and any test of being maximal among cells
pub cell_final : (task : Task) (i j : ℕ) → i ≤ j → j < hit_count task → (top : Bool) → (top ≡ true → MaximalCell task i j)
    → (MaximalCell task i j → top ≡ true)
    → is_final task (get_or (hits task) i 0) (get_or (hits task) j 0)
    ≡ (at_most (threshold_of task.scoring) (score_of task (get_or (hits task) i 0) (get_or (hits task) j 0))
    && is_reasonable task (get_or (hits task) i 0) (get_or (hits task) j 0) (get_or (hits task) i 0)
    && is_reasonable task (get_or (hits task) i 0) (get_or (hits task) j 0) (get_or (hits task) j 0) && top)
unfolding is_final
cell_final task i j h k top f g =
    let a : ℕ = get_or (hits task) i 0 in
    let b : ℕ = get_or (hits task) j 0 in
    let ordered : Bool = leb a b in
    let within : Bool = ltb b (length task.text) in
    let enough : Bool = at_most (threshold_of task.scoring) (score_of task a b) in
    let left : Bool = is_reasonable task a b a in
    let right : Bool = is_reasonable task a b b in
    same_test (is_final task a b) (enough && left && right && top)
    (λ e.
    (let each = all_six ordered within enough left right (is_maximal task a b) e in
    and_both (and_both (and_both each.2 each.3) each.4) (g (maximal_cell task i j h k (maximal_statement task a b each.5)))))
    (λ e.
    (let three = and_left (enough && left && right) top e in
    let two = and_left (enough && left) right three in
    and_both
    (and_both
    (and_both
    (and_both (and_both (le-leb a b (hit_at_most task i j h k)) (lt-ltb b (length task.text) (hit_within task j k))) (and_left enough left two))
    (and_right enough left two))
    (and_right (enough && left) right three))
    (statement_maximal task a b (cell_maximal task i j h k (f (and_right (enough && left && right) top e))))))
