-- The cells up to the first that matters, unrolled by one cell; and passing a column by way of such cells.
use Prim.Native.Nat.{ℕ, zero, suc, ◌+◌, ◌-◌, ◌≤◌, ◌<◌, min, zero-le}
use native.Mathlib.Omega.{arith}
use native.Mathlib.Numerals.{add-one}
use mathlib.Core.Path.{◌≡◌, refl, sym, ap, ◌∙◌, subst}
use mathlib.Core.Bool.{Bool, true, false, cond}
use mathlib.Core.List.{List}
use borrow.Author.Tests.{le-ltb}
use lib.Dec.{ltb}
use lib.ListN.{get_or}
use Rattle.base.specs.Lists.{bit}
use Rattle.session_records.specs.Records.{greater}
use Rattle.session_records.proofs.Words.{word_order}
use Rattle.session_cells.specs.declared.cells.Line.{Line}
use Rattle.session_cells.specs.declared.rows.Paused.{Paused}
use Rattle.session_cells.specs.Passing.{reach_at, best_at, lowered, line_score, order_in, in_reach, entered, matters, Update, pass_rows}
use Rattle.session_cells.specs.Pausing.{quiet_rows}
use Rattle.session_cells.proofs.Passing.{AtCell, reasonable, behind, pass_low, pass_stop, pass_on}

-- ---- one cell

-- a pause behind a cell that matters
abbrev paused_at : ℕ → ℕ → ℕ → ℕ → ℕ → Paused
paused_at row m highest s reach = record { row = row; m = m; highest = highest; score = s; reach = reach }

module _ (line : Line) (i m highest : ℕ) (part : List ℕ) (s one seen rest : ℕ) (at : AtCell line i m highest part s one seen rest) where
  unrolled : (n : ℕ) → quiet_rows line (suc n) i m highest part
      ≡ cond (matters line seen m (get_or part i 0)) (paused_at (i + 1) rest seen s (get_or part (reach_at i) 0)) (quiet_rows line n (i + 1) rest seen part)
  unrolled n = rw (at.lower, at.score, at.reach, at.known, add-one)

  module _ (to : ℕ) (h : i < to) where
    pub quiet_stop : matters line seen m (get_or part i 0) ≡ true
        → quiet_rows line (to - i) i m highest part ≡ paused_at (i + 1) rest seen s (get_or part (reach_at i) 0)
    quiet_stop l =
        let n : to - i ≡ suc (to - (i + 1)) = omega arith in
        rw n (unrolled (to - (i + 1)) ∙ rw l)

    pub quiet_on : matters line seen m (get_or part i 0) ≡ false
        → quiet_rows line (to - i) i m highest part ≡ quiet_rows line (to - (i + 1)) (i + 1) rest seen part
    quiet_on l =
        let n : to - i ≡ suc (to - (i + 1)) = omega arith in
        rw n (unrolled (to - (i + 1)) ∙ rw l)

-- what the definitions say at a cell, its pause among it
module _ (line : Line) (i m highest : ℕ) (part : List ℕ) where
  abbrev score : ℕ
  score = line_score line m (get_or part i 0)

  abbrev seen : ℕ
  seen = greater (order_in line) highest (get_or part (best_at i) 0)

  abbrev rest : ℕ
  rest = lowered m (in_reach line part i)

  -- the cell matters
  abbrev high : Bool
  high = matters line seen m (get_or part i 0)

  abbrev paused : Paused
  paused = paused_at (i + 1) rest seen score (get_or part (reach_at i) 0)

  at_cell : AtCell line i m highest part score (in_reach line part i) seen rest
  at_cell = record { score = refl; reach = refl; known = refl; lower = refl }

-- ---- where the cells pause

-- within the n rows from i on, behind one where there is one
pub record Paced (i n : ℕ) (pause : Paused) : Type 0 where
  pub moved : i + min n 1 ≤ pause.row
  pub to : pause.row ≤ i + n

paced : (line : Line) (n i m highest : ℕ) (part : List ℕ) → Paced i n (quiet_rows line n i m highest part)
paced line zero i m highest part = record { moved = omega arith; to = omega arith }
paced line (suc n) i m highest part =
    subst (Paced i (suc n)) (sym (unrolled line i m highest part _ _ _ _ (at_cell line i m highest part) n))
    (go (high line i m highest part) (paced line n (i + 1) _ _ part))
  where
    go : (b : Bool) {later : Paused} → Paced (i + 1) n later → Paced i (suc n) (cond b (paused line i m highest part) later)
    go true r = record { moved = omega arith; to = omega arith }
    go false r = record { moved = omega (arith, r.moved); to = omega (arith, r.to) }

-- ---- passing a column, from pause to pause

-- 1 where a left end with this reach is reasonable in the line's column
abbrev reaches : Line → ℕ → ℕ
reaches line reach = bit (ltb line.column reach)

-- the update from a pause on: the score word of its cell enters the row, and where the cell is no candidate the update goes on behind it
abbrev resumed : Line → ℕ → List ℕ → Paused → Update
resumed line to part q =
    let after = entered line.fractions part (q.row - 1) q.score q.highest in
    let higher = greater (order_in line) q.highest q.score in
    cond (reasonable line (reaches line q.reach) (q.row - 1)) (behind true q.row q.m higher after)
    (pass_rows line (to - q.row) q.row q.m higher after)

-- where no cell matters, the update ends
none_matters : (line : Line) (i to m highest : ℕ) (part : List ℕ) → to ≡ i
    → behind false i m highest part ≡ resumed line to part (paused_at i m highest 0 0)
unfolding entered greater
none_matters line i to m highest part e =
    let k : to - i ≡ 0 = omega arith in
    rw (le-ltb line.column 0 zero-le, (word_order line.fractions).lowest highest, k)

module _ (line : Line) (n i to m highest : ℕ) (part : List ℕ) (e : to ≡ i + suc n) where
  -- a cell that matters
  stops : high line i m highest part ≡ true → (found : Bool) → reasonable line (in_reach line part i) i ≡ found
      → pass_rows line (suc n) i m highest part ≡ resumed line to part (paused line i m highest part)
  unfolding in_reach
  stops l true t =
      let j : i + 1 - 1 ≡ i = omega arith in
      pass_stop _ _ _ _ _ _ _ _ _ (at_cell line i m highest part) _ _ l refl refl n t ∙ rw (j, t)
  stops l false t =
      let j : i + 1 - 1 ≡ i = omega arith in
      let k : to - (i + 1) ≡ n = omega arith in
      pass_on _ _ _ _ _ _ _ _ _ (at_cell line i m highest part) _ _ l refl refl n t ∙ rw (j, t, k)

  one_more : (c : Bool) → high line i m highest part ≡ c → (later : Paused)
      → pass_rows line n (i + 1) (rest line i m highest part) (seen line i m highest part) part ≡ resumed line to part later
      → pass_rows line (suc n) i m highest part ≡ resumed line to part (cond c (paused line i m highest part) later)
  one_more true t later r = stops t (reasonable line (in_reach line part i) i) refl
  one_more false t later r = pass_low _ _ _ _ _ _ _ _ _ (at_cell line i m highest part) n t ∙ r

-- passing goes on from the pause as from the first row
by_pauses : (line : Line) (n i to m highest : ℕ) (part : List ℕ) → to ≡ i + n
    → pass_rows line n i m highest part ≡ resumed line to part (quiet_rows line n i m highest part)
by_pauses line zero i to m highest part e = none_matters line i to m highest part (omega arith)
by_pauses line (suc n) i to m highest part e =
    one_more line n i to m highest part e (high line i m highest part) refl _ (by_pauses line n (i + 1) to _ _ part (omega arith))
    ∙ ap (resumed line to part) (sym (unrolled line i m highest part _ _ _ _ (at_cell line i m highest part) n))

module _ (line : Line) (to i m highest : ℕ) (part : List ℕ) (q : Paused) (h : i ≤ to) (a : q ≡ quiet_rows line (to - i) i m highest part) where
  pub pace : Paced i (to - i) q
  pace = subst (Paced i (to - i)) (sym a) (paced line (to - i) i m highest part)

  -- the pause is behind a row, within the rows that are asked for
  pub pause_within : i < to → (i < q.row) × (q.row ≤ to)
  pause_within l = (omega (arith, pace.moved), omega (arith, pace.to))

  resumes : pass_rows line (to - i) i m highest part ≡ resumed line to part q
  resumes = by_pauses line (to - i) i to m highest part (omega arith) ∙ ap (resumed line to part) (sym a)

  module _ (one higher : ℕ) (updated : List ℕ) (o : one ≡ reaches line q.reach) (g : higher ≡ greater (order_in line) q.highest q.score)
      (e : updated ≡ entered line.fractions part (q.row - 1) q.score q.highest) where
    pub pause_stop : reasonable line one (q.row - 1) ≡ true → pass_rows line (to - i) i m highest part ≡ behind true q.row q.m higher updated
    pause_stop t = resumes ∙ rw (← o, t, e, g)

    pub pause_on : reasonable line one (q.row - 1) ≡ false
        → pass_rows line (to - i) i m highest part ≡ pass_rows line (to - q.row) q.row q.m higher updated
    pause_on t = resumes ∙ rw (← o, t, e, g)
