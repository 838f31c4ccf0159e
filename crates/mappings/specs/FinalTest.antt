-- Definition 1 as a test that computes: `test_final` and `final_test` (proofs/Definition1.antt) show that it passes exactly for the final
-- intervals.
use Rattle.std.specs.Prelude.{ℕ, suc, ◌-◌, Bool, ◌&&◌, leb, ltb, length, get_or}
use Rattle.base.specs.Lists.{every, range}
use Rattle.base.specs.Counts.{occ}
use Rattle.mappings.specs.Score.{Task, interval, score_of, threshold_of, at_most}
use Rattle.mappings.specs.Cells.{Cell, left_end, right_end}

-- t[i] occurs in [a, b] at most as often as in p
unfoldable pub is_reasonable : Task → ℕ → ℕ → ℕ → Bool
is_reasonable task a b i = leb (occ (get_or task.text i 0) (interval task.text a b)) (occ (get_or task.text i 0) task.pattern)

-- no interval [c, d] with c from 0 to a and d from b to the text's end scores more than [a, b]
unfoldable pub is_maximal : Task → ℕ → ℕ → Bool
is_maximal task a b =
    every
    (λ (c : ℕ). every (λ (d : ℕ). at_most (score_of task c d) (score_of task a b)) (range b (length task.text - b)))
    (range 0 (suc a))

unfoldable pub is_final : Task → ℕ → ℕ → Bool
is_final task a b =
    leb a b
    && ltb b (length task.text)
    && at_most (threshold_of task.scoring) (score_of task a b)
    && is_reasonable task a b a
    && is_reasonable task a b b
    && is_maximal task a b

-- cell (i, j) is final when [i, j] is
unfoldable pub is_final_cell : Task → Cell → Bool
is_final_cell task cell = is_final task (left_end task cell) (right_end task cell)
