-- What start notes of each hit before it writes a work word: its index in the text, its slot among the pattern's words in order, and back.
use Rattle.std.specs.Prelude.{ℕ, zero, suc, ◌+◌, ◌≤◌, ◌<◌, Bool, cond, ◌&&◌, ◌≡◌, List, [], ◌∷◌, map, eqb, ltb, length, get_or, set}
use Rattle.base.specs.Lists.{bit, range}
use Rattle.base.specs.Counts.{occ}
use Rattle.base.specs.Replies.{Reply, accepted, refused}
use Rattle.base.specs.Limits.{hit_limit}
use Rattle.sorting.specs.Sorting.{Sorted, LowerBound}
use Rattle.mappings.specs.declared.Scoring.{Scoring}
use Rattle.mappings.specs.declared.Scoring.TheVariants.{Linear, Jaccard}
use Rattle.mappings.specs.Score.{Task}
use Rattle.mappings.specs.Cells.{hits_from, hits, hit_count}
use Rattle.mappings.specs.HitCodes.{hit_codes}
use Rattle.session_words.specs.Layout.{reach_from, block_count}
use Rattle.session_start.specs.Start.{bad_weights, bad_fraction}
use Rattle.session_start.specs.ScoreWords.{threshold_word}
use Rattle.session_start.specs.Numbers.{first_number, second_number, kind_number}
use Rattle.session_start.specs.Tables.{reach, back, start_of}

-- 1 where x stands at this index, else 0
abbrev pub one_at : List ℕ → ℕ → ℕ → ℕ
one_at words at x = bit (ltb at (length words) && eqb (get_or words at 0) x)

-- the hits of a text are counted; of those that there is room for, the index is noted, and the slot: where the entry's word begins
-- among the pattern's words in order
pub record Noted (text sorted index slots : List ℕ) (h : ℕ) : Type 0 where
  pub number : h ≡ length (hits_from sorted 0 text)
  pub indices : (k : ℕ) → k < h → k < length index → get_or index k 0 ≡ get_or (hits_from sorted 0 text) k 0
  pub lower : (k : ℕ) → k < h → k < length slots → LowerBound sorted (get_or text (get_or (hits_from sorted 0 text) k 0) 0) (get_or slots k 0)

-- the words that begin at these slots
abbrev pub words_at : List ℕ → List ℕ → List ℕ
words_at sorted slots = map (λ (s : ℕ). get_or sorted s 0) slots

-- at each slot a word begins
pub record Begin (sorted slots : List ℕ) : Type 0 where
  pub in_order : Sorted sorted
  pub within : (k : ℕ) → k < length slots → get_or slots k 0 < length sorted
  pub lower : (k : ℕ) → k < length slots → LowerBound sorted (get_or sorted (get_or slots k 0) 0) (get_or slots k 0)

-- each code of the hits occurs in p
abbrev pub AllIn : List ℕ → List ℕ → Type 0
AllIn p g = (i : ℕ) → i < length g → 1 ≤ occ (get_or g i 0) p

-- back and reach of each hit
unfoldable pub backs : List ℕ → List ℕ → List ℕ
backs p g = map (back p g) (range 0 (length g))

unfoldable pub reaches : List ℕ → List ℕ → List ℕ
reaches p g = map (reach p g) (range 0 (length g))

-- these words hold reach of each hit in its place
abbrev pub HoldsReach : List ℕ → List ℕ → List ℕ → Type 0
HoldsReach p g words = (i : ℕ) → i < length g → get_or words (reach_from + i) 0 ≡ reach p g i

-- hit j ends the reach of the hit before its back, if there is one
abbrev pub with_pair : ℕ → ℕ → List ℕ → List ℕ
with_pair zero j l = l
with_pair (suc i) j l = set l i j

-- m at the first row of each block in the last column, and one 0 more
unfoldable pub starts : List ℕ → List ℕ → List ℕ
starts p g = map (start_of p g (length g)) (range 0 (suc (block_count (length g))))

-- words 0 to 10 of a session in which no cell has been passed
abbrev pub fresh_heading : Scoring → ℕ → ℕ → ℕ → List ℕ
fresh_heading scoring h size shared =
    h
    ∷ first_number scoring
    ∷ second_number scoring
    ∷ 0
    ∷ kind_number scoring
    ∷ size
    ∷ threshold_word scoring
    ∷ h
    ∷ 0
    ∷ shared
    ∷ threshold_word scoring
    ∷ []

-- what start has at hand when it writes the work words of a task
pub record Prepared (task : Task) (scoring : Scoring) (size : ℕ) (index noted : List ℕ) : Type 0 where
  pub scoring_is : scoring ≡ task.scoring
  pub size_is : size ≡ length task.pattern
  pub index_is : index ≡ hits task
  pub backs_are : noted ≡ backs task.pattern (hit_codes task)

-- the scoring is refused
abbrev pub bad_scoring : Scoring → Bool
bad_scoring (Linear u v threshold) = bad_weights u v
bad_scoring (Jaccard f g) = bad_fraction f g

-- what start answers where only the number of hits is left to judge
unfoldable pub hit_reply : Task → Reply
hit_reply task = cond (ltb hit_limit (hit_count task)) (refused 11 (hit_count task ∷ [])) (accepted (hit_count task ∷ []))
