-- The further pieces of the output: lines of the forward session, then of the other one, then the last line.
use Rattle.std.specs.Prelude.{ℕ, ◌+◌, ◌≤◌, ◌<◌, ◌≡◌, ◌⊎◌, cond, List, eqb, length, get_or}
use Rattle.session_words.specs.FirstWords.{passed_at}
use Rattle.strands.specs.declared.Strand.{Strand}
use Rattle.strands.specs.declared.Strand.TheVariants.{Forward, Reverse}
use Rattle.list_line.specs.Writing.{Written}
use Rattle.list_lines.specs.Pieces.{cells_left, Fills}
use Rattle.list_lines.specs.declared.filling.Filled.{Filled}
use Rattle.list_printed.specs.Output.{last_line}

-- what is left with so many of the other session: nothing, where nothing can follow in the session in hand
abbrev pub left_with : ℕ → ℕ → ℕ
left_with left other = cond (eqb left 0) 0 (left + other)

-- a piece of one session's lines, given what is left of the other session
pub record Part (work places : List ℕ) (k size : ℕ) (strand : Strand) (found : ℕ) (out : List ℕ) (other : ℕ) (r : Filled)
    (work' out' : List ℕ) : Type 0 where
  pub part : Filled
  pub fills : Fills work places k size strand found out part work' out'
  pub written_is : r.written ≡ part.written
  pub found_is : r.found ≡ part.found
  pub left_is : r.left ≡ left_with part.left other

-- the last line, where it fits; else as much is left as before, one for each session
pub record Last (found cells : ℕ) (out : List ℕ) (r : Filled) (out' : List ℕ) : Type 0 where
  pub line : Written (last_line found cells) 0 out out' r.written
  pub same_found : r.found ≡ found
  pub left_is : r.left ≡ cond (eqb r.written 0) 2 0

-- what `fill` answers and leaves, by what is left in the work words of the two sessions
pub record FillsRun (forward reverse places : List ℕ) (k size size' found : ℕ) (out : List ℕ) (r : Filled) (forward' reverse' out' : List ℕ) :
    Type 0 where
  pub inside : r.written ≤ length out'
  -- words that no session has: nothing is printed, and nothing changes
  pub none : (cells_left forward ≡ 0) ⊎ (cells_left reverse ≡ 0)
      → (r.written ≡ 0) × (r.found ≡ found) × (r.left ≡ 0) × (forward' ≡ forward) × (reverse' ≡ reverse) × (out' ≡ out)
  pub of_forward : 1 < cells_left forward → 0 < cells_left reverse
      → Part forward places k size Forward found out (cells_left reverse) r forward' out' × (reverse' ≡ reverse)
  pub of_reverse : cells_left forward ≡ 1 → 1 < cells_left reverse
      → Part reverse places k size' Reverse found out (cells_left forward) r reverse' out' × (forward' ≡ forward)
  pub last : cells_left forward ≡ 1 → cells_left reverse ≡ 1
      → Last found (get_or forward passed_at 0 + get_or reverse passed_at 0) out r out' × (forward' ≡ forward) × (reverse' ≡ reverse)
