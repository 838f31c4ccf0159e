-- When step refuses: by the number of work words, and by words 0 to 4.
use Rattle.std.specs.Prelude.{ℕ, Bool, true, cond, ◌||◌, List, ltb, eqb, length, get_or}
use Rattle.base.specs.Limits.{hit_limit, work_words}
use Rattle.mappings.specs.Cells.{cell_count}
use Rattle.session_words.specs.FirstWords.{hits_at, u_at, v_at, passed_at, kind_at}
use Rattle.session_start.specs.Start.{bad_weights, bad_fraction}

-- 10: fewer than 16,384 work words
unfoldable pub too_few_words : List ℕ → Bool
too_few_words work = ltb (length work) work_words

-- a kind of score that is neither 0 nor 1; or words 1 and 2 as 7 refuses u and v where it is 0, and as 17 refuses f and g where it is 1
abbrev pub bad_scoring : ℕ → ℕ → ℕ → Bool
bad_scoring kind first second = cond (eqb kind 0) (bad_weights first second) (cond (eqb kind 1) (bad_fraction first second) true)

-- 15: words 0 to 4 hold h over 2,048, a kind of score and two numbers of it that no start accepts, or more cells passed than h(h + 1)/2
unfoldable pub bad_words : List ℕ → Bool
bad_words work =
    ltb hit_limit (get_or work hits_at 0)
    || bad_scoring (get_or work kind_at 0) (get_or work u_at 0) (get_or work v_at 0)
    || ltb (cell_count (get_or work hits_at 0)) (get_or work passed_at 0)
