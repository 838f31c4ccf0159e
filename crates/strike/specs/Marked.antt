-- The words of a list that are marked.
use Rattle.std.specs.Prelude.{ℕ, List, [], ◌∷◌, eqb}
use Rattle.base.specs.Lists.{add_if}

-- the words whose mark, at the same index of another list, is 1, in their order
abbrev pub marked_words : List ℕ → List ℕ → List ℕ
marked_words [] words = []
marked_words (m ∷ marks) [] = []
marked_words (m ∷ marks) (w ∷ words) = add_if (eqb m 1) w (marked_words marks words)
