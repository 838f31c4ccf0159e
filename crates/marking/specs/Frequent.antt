-- The list of the words that occur too often, in order.
use Rattle.std.specs.Prelude.{ℕ, ◌-◌, ◌≡◌, cond, ◌&&◌, List, [], ◌∷◌, ◌++◌, ltb, eqb, length, get_or}
use Rattle.sorting.specs.Sorting.{Sorted}
use Rattle.marking.specs.Marks.{mark_of}

-- the words of the list are those that occur more than `limit` times: a word has the mark 1 where it is not in the list
pub record Frequent (words : List ℕ) (limit : ℕ) (list : List ℕ) : Type 0 where
  pub in_order : Sorted list
  pub same_mark : (x : ℕ) → mark_of list 0 x ≡ mark_of words limit x

-- the list with the word at its end, unless it ends in that word already
unfoldable pub ending_in : ℕ → List ℕ → List ℕ
ending_in word list = cond (ltb 0 (length list) && eqb (get_or list (length list - 1) 0) word) list (list ++ word ∷ [])
