-- Marks on the words of a list that are rare among the words that decide.
use Rattle.std.specs.Prelude.{ℕ, Bool, cond, ◌&&◌, List, map, leb, length}
use Rattle.base.specs.Limits.{text_limit}
use Rattle.base.specs.Lists.{bit}
use Rattle.base.specs.Counts.{occ}
use Rattle.base.specs.Replies.{over}

-- 1 for a word that occurs at most `limit` times among the words that decide, else 0
abbrev pub mark_of : List ℕ → ℕ → ℕ → ℕ
mark_of deciding limit w = bit (leb (occ w deciding) limit)

-- the mark of each word, in their order
abbrev pub marks_of : List ℕ → ℕ → List ℕ → List ℕ
marks_of deciding limit words = map (mark_of deciding limit) words

-- few enough words decide, and there is room for the marks
unfoldable pub markable : List ℕ → List ℕ → List ℕ → Bool
markable deciding words marks = leb (length deciding) text_limit && leb (length words) (length marks)

-- the lent marks afterwards: written from their start, or all as they came
unfoldable pub marked : List ℕ → ℕ → List ℕ → List ℕ → List ℕ
marked deciding limit words marks = cond (markable deciding words marks) (over (marks_of deciding limit words) marks) marks
