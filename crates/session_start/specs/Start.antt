-- What start answers, and the work words afterwards.
use Rattle.std.specs.Prelude.{ℕ, Bool, cond, ◌||◌, List, [], ◌∷◌, ltb, eqb, length}
use Rattle.base.specs.Replies.{Reply, accepted, refused}
use Rattle.session_start.specs.WorkWords.{session_words}
use Rattle.base.specs.Limits.{outside, text_limit, weight_limit, divisor_limit, pattern_limit, hit_limit, work_words}
use Rattle.mappings.specs.declared.Scoring.{Scoring}
use Rattle.mappings.specs.declared.Scoring.TheVariants.{Linear, Jaccard}
use Rattle.mappings.specs.Score.{Task}
use Rattle.mappings.specs.Cells.{hit_count}

-- u or v outside 1–1,000
unfoldable pub bad_weights : ℕ → ℕ → Bool
bad_weights u v = outside 1 weight_limit u || outside 1 weight_limit v

-- g outside 1–1,000, or f over g
unfoldable pub bad_fraction : ℕ → ℕ → Bool
bad_fraction f g = outside 1 divisor_limit g || ltb g f

-- 7 or 17, by the scoring; where neither applies, what is answered then
abbrev pub judged : Scoring → Reply → Reply
judged (Linear u v threshold) next = cond (bad_weights u v) (refused 7 []) next
judged (Jaccard f g) next = cond (bad_fraction f g) (refused 17 []) next

-- what start answers, given how many work words it is lent: 7 or 17, then 8 to 11 in this order, 11 with h; or h
unfoldable pub start_reply : Task → ℕ → Reply
start_reply task lent =
    judged task.scoring
    (cond (ltb text_limit (length task.text)) (refused 8 [])
    (cond (eqb (length task.pattern) 0 || ltb pattern_limit (length task.pattern)) (refused 9 [])
    (cond (ltb lent work_words) (refused 10 [])
    (cond (ltb hit_limit (hit_count task)) (refused 11 (hit_count task ∷ []))
    (accepted (hit_count task ∷ []))))))

-- the work words after start, given as they came: a refusal changes none of them
abbrev pub after_start : Reply → Task → List ℕ → List ℕ
after_start (accepted values) task before = session_words task before 0
after_start (refused number values) task before = before

unfoldable pub start_words : Task → List ℕ → List ℕ
start_words task before = after_start (start_reply task (length before)) task before
