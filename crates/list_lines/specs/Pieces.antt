-- The pieces in which the lines of a session's mappings are printed, and what each leaves to be printed.
use Rattle.std.specs.Prelude.{ℕ, zero, suc, ◌+◌, ◌-◌, ◌*◌, ◌/◌, ◌≤◌, ◌<◌, ◌≡◌, ◌⊎◌, Bool, true, false, cond, ◌&&◌}
use Rattle.std.specs.Prelude.{◌||◌, List, [], ◌∷◌, ◌++◌, map, leb, ltb, length, get_or, take, drop, Option, Some}
use Rattle.base.specs.Lists.{keep}
use Rattle.base.specs.Limits.{hit_limit, work_words, text_limit, pattern_limit, word_limit}
use Rattle.mappings.specs.declared.Score.{Score}
use Rattle.mappings.specs.Score.{Task, length_of}
use Rattle.mappings.specs.Cells.{Mapping, cells_of, hit_count, cell_count, mapping_of}
use Rattle.mappings.specs.FinalTest.{is_final_cell}
use Rattle.mappings.specs.Rule.{reported, rule_answer}
use Rattle.session_words.specs.FirstWords.{hits_at, passed_at}
use Rattle.session_start.specs.WorkWords.{session_words}
use Rattle.mapper.specs.Step.{too_few_words, bad_words}
use Rattle.mapper.specs.Promise.{Accepts}
use Rattle.list_line.specs.Writing.{Written}
use Rattle.strands.specs.declared.Strand.{Strand}
use Rattle.list_lines.specs.Lines.{mapping_line, mapping_lines}
use Rattle.list_lines.specs.declared.filling.Filled.{Filled}

-- ---- lines

-- the line's numbers hold what [a, b] asks
pub record Holds (places : List ℕ) (k size a b : ℕ) : Type 0 where
  pub ordered : a ≤ b
  pub known : b < length places
  pub short : b - a < text_limit
  pub pattern_small : size ≤ pattern_limit
  pub some : 1 ≤ get_or places b 0 + k
  pub last_small : get_or places b 0 + k ≤ word_limit

-- the same as a test, with what m asks
unfoldable pub is_held : List ℕ → ℕ → ℕ → ℕ → ℕ → ℕ → Bool
is_held places k size a b m =
    leb a b
    && ltb b (length places)
    && ltb (b - a) text_limit
    && leb size pattern_limit
    && leb 1 (get_or places b 0 + k)
    && leb (get_or places b 0 + k) word_limit
    && leb m (length_of a b)
    && leb m size

-- what `last_letter` answers: none where the line's numbers do not hold it
pub record LastLetter (places : List ℕ) (k size a b : ℕ) (last : Option ℕ) : Type 0 where
  pub inside : (n : ℕ) → last ≡ Some n → Holds places k size a b × (n ≡ get_or places b 0 + k - 1)
  pub held : Holds places k size a b → last ≡ Some (get_or places b 0 + k - 1)

-- what `put_mapping` leaves: the mapping's line where its numbers hold it, else nothing
pub record MappingWritten (places : List ℕ) (k size : ℕ) (strand : Strand) (a b : ℕ) (score : Score) (m at : ℕ) (before after : List ℕ)
    (next : ℕ) : Type 0 where
  pub inside : at ≤ length before → next ≤ length before
  pub onward : at ≤ next
  pub past : at ≤ length before → drop next after ≡ drop next before
  pub held : Holds places k size a b → m ≤ length_of a b → m ≤ size → at ≤ length before
      → Written (mapping_line places k size strand (record { a = a; b = b; score = score; m = m })) at before after next
  pub none : is_held places k size a b m ≡ false → (next ≡ at) × (after ≡ before)

-- ---- what is left to print

-- the final mappings among the cells after number q
abbrev pub finals_after : Task → ℕ → List Mapping
finals_after task q = map (mapping_of task) (keep (is_final_cell task) (drop q (cells_of task)))

-- the lines still to be printed after q cells
abbrev pub lines_after : Task → List ℕ → ℕ → ℕ → Strand → ℕ → List ℕ
lines_after task places k size strand q = mapping_lines places k size strand (finals_after task q)

-- the cells that remain in these work words and one more; 0 for words that step refuses for h or for the cells passed
unfoldable pub cells_left : List ℕ → ℕ
cells_left work =
    cond (ltb (length work) work_words || ltb hit_limit (get_or work hits_at 0) || ltb (cell_count (get_or work hits_at 0)) (get_or work passed_at 0)) 0
    (suc (cell_count (get_or work hits_at 0) - get_or work passed_at 0))

-- ---- a piece

-- the positions, k and the number of entries of the pattern belong to the task
pub record Belongs (task : Task) (places : List ℕ) (k size : ℕ) : Type 0 where
  pub enough : length task.text ≤ length places
  pub k_some : 1 ≤ k
  pub size_is : size ≡ length task.pattern
  pub last_small : (b : ℕ) → b < length task.text → get_or places b 0 + k ≤ word_limit

-- no line is longer: one more is begun only where so many bytes are free
abbrev pub line_room : ℕ
line_room = 68

-- no session has more cells, and so mappings: the cells of so many hits as a session may have
abbrev pub cell_limit : ℕ
cell_limit = hit_limit * (hit_limit + 1) / 2

-- no run of two sessions has more mappings
abbrev pub found_limit : ℕ
found_limit = 2 * cell_limit

-- a mapping's line is written where there is room, if the count holds it and the line's numbers do
unfoldable pub is_printed : List ℕ → ℕ → ℕ → ℕ → Mapping → Bool
is_printed places k size found mapping = ltb found found_limit && is_held places k size mapping.a mapping.b mapping.m

-- how many of these mappings' lines are written into so many bytes, `found` mappings being before them
abbrev pub lines_in : List ℕ → ℕ → ℕ → Strand → ℕ → ℕ → List Mapping → ℕ
lines_in places k size strand room found [] = 0
lines_in places k size strand room found (mapping ∷ rest) =
    cond (leb line_room room && is_printed places k size found mapping)
    (suc (lines_in places k size strand (room - length (mapping_line places k size strand mapping)) (found + 1) rest))
    0

-- the budget of each step: more cells than any session has
abbrev pub step_budget : ℕ
step_budget = word_limit - 1

-- the cells passed when the rule has found so many mappings more
abbrev pub passed_for : Task → ℕ → ℕ → ℕ
passed_for task q zero = q
passed_for task q (suc n) = passed_for task (q + reported (rule_answer task q step_budget)) n

-- the cells passed with the last line that is written into so many bytes
abbrev pub place_in : Task → List ℕ → ℕ → ℕ → Strand → ℕ → ℕ → ℕ → ℕ
place_in task places k size strand room found q = passed_for task q (lines_in places k size strand room found (finals_after task q))

-- a piece of a session's lines: from q cells and `found` mappings on, to q' cells
module _ (task : Task) (places : List ℕ) (k size : ℕ) (strand : Strand) (q found : ℕ) (out : List ℕ) (r : Filled) (out' : List ℕ) (q' : ℕ) where
  -- it ends behind the last mapping, with room for one more: no cell remains
  pub record Done : Type 0 where
    pub left_is : r.left ≡ 1
    pub had_room : line_room + r.written ≤ length out
    pub all_passed : q' ≡ cell_count (hit_count task)
    pub all_found : r.found ≡ found + length (finals_after task q)
    pub bytes : take r.written out' ≡ lines_after task places k size strand q

  -- or for want of room, right behind the last mapping written; where it has any bytes, at least one cell was passed
  pub record Full : Type 0 where
    pub left_is : r.left ≡ suc (cell_count (hit_count task) - q')
    pub no_room : length out < line_room + r.written
    pub place : q' ≡ place_in task places k size strand (length out) found q
    pub further : 0 < r.written → q < q'
    pub tally : r.found + length (finals_after task q') ≡ found + length (finals_after task q)
    pub bytes : take r.written out' ++ lines_after task places k size strand q' ≡ lines_after task places k size strand q

  -- or behind a mapping whose line can't be written, which does not happen where all belongs to the session
  pub record Stuck : Type 0 where
    pub none_left : r.left ≡ 0
    pub had_room : line_room + r.written ≤ length out
    pub from : ℕ
    pub from_is : from ≡ place_in task places k size strand (length out) found q
    pub place : q' ≡ passed_for task from 1
    pub mapping : Mapping
    pub next : finals_after task from ≡ mapping ∷ finals_after task q'
    pub unprinted : is_printed places k size r.found mapping ≡ false
    pub counted : r.found + q < found + q'
    pub bytes : take r.written out' ++ lines_after task places k size strand from ≡ lines_after task places k size strand q

  pub record Piece (before work' : List ℕ) : Type 0 where
    pub onward : q ≤ q'
    pub among : q' ≤ cell_count (hit_count task)
    pub counted : r.found + q ≤ found + q'
    pub words : work' ≡ session_words task before q'
    pub found_is : r.found ≡ found + lines_in places k size strand (length out) found (finals_after task q)
    pub ends : Done ⊎ (Full ⊎ Stuck)

-- ---- words that step refuses

-- 10 or 15
unfoldable pub refused_words : List ℕ → Bool
refused_words work = too_few_words work || bad_words work

-- nothing is printed and nothing changes; without room for a line step is not asked
pub record Unmoved (work : List ℕ) (found : ℕ) (out : List ℕ) (r : Filled) (work' out' : List ℕ) : Type 0 where
  pub none_written : r.written ≡ 0
  pub same_found : r.found ≡ found
  pub left_is : r.left ≡ cond (ltb (length out) line_room) (cells_left work) 0
  pub same_work : work' ≡ work
  pub same_out : out' ≡ out

-- what `fill_lines` answers and leaves. For words that no start and steps made it is open which bytes it writes and what it answers, as step's
-- answer is; all other bytes, and the words beyond the first 16,384, keep their content
pub record Fills (work places : List ℕ) (k size : ℕ) (strand : Strand) (found : ℕ) (out : List ℕ) (r : Filled) (work' out' : List ℕ) :
    Type 0 where
  pub inside : r.written ≤ length out'
  pub long : length out' ≡ length out
  pub past : drop r.written out' ≡ drop r.written out
  pub number : length work' ≡ length work
  pub beyond : drop work_words work' ≡ drop work_words work
  pub few : r.left ≤ suc cell_limit
  pub refused : refused_words work ≡ true → Unmoved work found out r work' out'
  pub session : (task : Task) (before : List ℕ) (q : ℕ) → Accepts task before → q ≤ cell_count (hit_count task) → work ≡ session_words task before q
      → (q' : ℕ) × Piece task places k size strand q found out r out' q' before work'
