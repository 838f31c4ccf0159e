-- Passing a column, unrolled by one cell and by the rest of one block; which rows it passes, and how long it leaves the part.
use Prim.Native.Nat.{ℕ, zero, suc, ◌+◌, ◌-◌, ◌*◌, ◌/◌, ◌≤◌, ◌<◌, min}
use native.Mathlib.Nat.{le_refl, le-suc}
use native.Mathlib.Omega.{arith}
use native.Mathlib.Numerals.{add-one}
use mathlib.Core.Path.{◌≡◌, refl, sym, ap, ◌∙◌}
use mathlib.Core.Bool.{Bool, true, false, cond, ◌&&◌, true≢false, false≢true}
use mathlib.Core.List.{List}
use borrow.Author.Tests.{le-ltb, lt-ltb, leb-true, ltb-true, ltb-false}
use lib.Dec.{leb, ltb, eqb}
use lib.ListN.{length, get_or, set, length-set}
use Rattle.base.specs.Lists.{bit}
use Rattle.base.proofs.Lists.{and_left}
use Rattle.session_words.specs.Layout.{block_rows}
use Rattle.session_records.specs.Words.{numerator, denominator, at_most}
use Rattle.session_records.specs.Records.{greater}
use Rattle.session_cells.specs.declared.cells.Line.{Line}
use Rattle.session_cells.specs.Passing.{reach_at, best_at, top_at, lowered, line_score, line_divisor, order_in, in_reach, entered, matters, candidate_test}
use Rattle.session_cells.specs.Passing.{Update, pass_rows, rest_end, skips, skipped, pass_rest, pass_blocks}

-- ---- a line whose kind of score words is known

module _ (line : Line) (fractions : Bool) (kind : line.fractions ≡ fractions) where
  pub greater_of : (a b : ℕ) {seen : ℕ} → seen ≡ greater (at_most fractions) a b → seen ≡ greater (order_in line) a b
  greater_of a b e = rw kind e

  pub entered_of : (part : List ℕ) (i s seen : ℕ) {updated : List ℕ} → updated ≡ entered fractions part i s seen
      → updated ≡ entered line.fractions part i s seen
  entered_of part i s seen e = rw kind e

module _ (line : Line) (seen m x : ℕ) where
  abbrev matters_if : Bool → Bool
  matters_if fractions = cond fractions (leb (numerator seen * line_divisor line m x) (m * denominator seen)) (leb seen (line_score line m x))

  pub number_matters : {answer : Bool} → line.fractions ≡ false → (s : ℕ) → s ≡ line_score line m x → leb seen s ≡ answer
      → matters line seen m x ≡ answer
  unfolding matters
  number_matters k s e t = ap matters_if k ∙ ap (λ (n : ℕ). leb seen n) (sym e) ∙ t

  pub fraction_matters : {answer : Bool} → line.fractions ≡ true → (d : ℕ) → d ≡ line_divisor line m x
      → leb (numerator seen * d) (m * denominator seen) ≡ answer → matters line seen m x ≡ answer
  unfolding matters
  fraction_matters k d e t = ap matters_if k ∙ ap (λ (n : ℕ). leb (numerator seen * n) (m * denominator seen)) (sym e) ∙ t

-- ---- one cell

-- what the code has computed at a cell of row i: its score word, whether its left end is reasonable, what the rows up to it have seen, and
-- m behind it
pub record AtCell (line : Line) (i m highest : ℕ) (part : List ℕ) (s one seen rest : ℕ) : Type 0 where
  pub score : s ≡ line_score line m (get_or part i 0)
  pub reach : one ≡ in_reach line part i
  pub known : seen ≡ greater (order_in line) highest (get_or part (best_at i) 0)
  pub lower : rest ≡ lowered m one

-- the same from what code over score words of one kind has computed
pub cell_known : (line : Line) (i m highest : ℕ) (part : List ℕ) (fractions : Bool) → line.fractions ≡ fractions → {s one seen rest : ℕ}
    → s ≡ line_score line m (get_or part i 0) → one ≡ bit (ltb line.column (get_or part (reach_at i) 0))
    → seen ≡ greater (at_most fractions) highest (get_or part (best_at i) 0) → rest ≡ lowered m one
    → AtCell line i m highest part s one seen rest
unfolding in_reach
cell_known line i m highest part fractions kind s one seen rest = record {
  score = s;
  reach = one;
  known = greater_of line fractions kind highest _ seen;
  lower = rest;
}

-- both ends of a cell of row i are reasonable
abbrev pub reasonable : Line → ℕ → ℕ → Bool
reasonable line one i = eqb one 1 && leb line.back i

-- passing has stopped before this row: at a candidate, or where the rows end
abbrev pub behind : Bool → ℕ → ℕ → ℕ → List ℕ → Update
behind found row m highest part = record { answer = record { found = found; row = row; m = m; highest = highest }; part = part }

module _ (line : Line) (i m highest : ℕ) (part : List ℕ) (s one seen rest : ℕ) (at : AtCell line i m highest part s one seen rest) where
  -- the cell matters: its score is at least what the rows up to it have seen
  abbrev matter : Bool
  matter = matters line seen m (get_or part i 0)

  -- what the rows up to it have seen once it is passed, and the part
  abbrev top : ℕ
  top = cond matter (greater (order_in line) seen s) seen

  abbrev after : List ℕ
  after = cond matter (entered line.fractions part i s seen) part

  -- the laws below, in one: what is passed later is the same from the words that the code goes on with
  unrolled : (n : ℕ) → pass_rows line (suc n) i m highest part
      ≡ cond (candidate_test matter one line.back i) (behind true (i + 1) rest top after) (pass_rows line n (i + 1) rest top after)
  unrolled n = rw (at.lower, at.score, at.reach, at.known, add-one)

  -- a cell that does not matter changes nothing
  pub pass_low : (n : ℕ) → matter ≡ false → pass_rows line (suc n) i m highest part ≡ pass_rows line n (i + 1) rest seen part
  unfolding candidate_test
  pass_low n l = unrolled n ∙ rw l

  module _ (updated : List ℕ) (higher : ℕ) (l : matter ≡ true) (e : updated ≡ entered line.fractions part i s seen)
      (g : higher ≡ greater (order_in line) seen s) where
    pub pass_stop : (n : ℕ) → reasonable line one i ≡ true → pass_rows line (suc n) i m highest part ≡ behind true (i + 1) rest higher updated
    unfolding candidate_test
    pass_stop n t = unrolled n ∙ rw (l, t, e, g)

    pub pass_on : (n : ℕ) → reasonable line one i ≡ false → pass_rows line (suc n) i m highest part ≡ pass_rows line n (i + 1) rest higher updated
    unfolding candidate_test
    pass_on n t = unrolled n ∙ rw (l, t, e, g)

    -- the last cell, whether it is a candidate or not
    pub pass_last : (found : Bool) → found ≡ reasonable line one i → pass_rows line 1 i m highest part ≡ behind found (i + 1) rest higher updated
    pass_last true t = pass_stop 0 (sym t)
    pass_last false t = pass_on 0 (sym t)

-- ---- where passing cells stops

-- the rows that it passes, whether it found a candidate, and the length of the part
pub record Bounded (i n : ℕ) (part : List ℕ) (update : Update) : Type 0 where
  pub from : i ≤ update.answer.row
  pub to : update.answer.row ≤ i + n
  pub whole : update.answer.found ≡ false → update.answer.row ≡ i + n
  pub moved : update.answer.found ≡ true → suc i ≤ update.answer.row
  pub size : length update.part ≡ length part

length_entered : (fractions : Bool) (part : List ℕ) (i s seen : ℕ) → length (entered fractions part i s seen) ≡ length part
unfolding entered
length_entered fractions part i s seen = go (at_most fractions s seen)
  where
    go : (b : Bool)
        → length (cond b part
        (set (set part (best_at i) s) (top_at (i / block_rows)) (greater (at_most fractions) s (get_or part (top_at (i / block_rows)) 0))))
        ≡ length part
    go true = refl
    go false = simp length-set

-- no candidate: all rows were passed
none_found : (i n row m highest : ℕ) (part : List ℕ) → row ≡ i + n → Bounded i n part (behind false row m highest part)
none_found i n row m highest part e = record {
  from = omega arith;
  to = omega arith;
  whole = λ f. e;
  moved = λ f. absurd (false≢true f);
  size = refl;
}

pub bounded : (line : Line) (n i m highest : ℕ) (part : List ℕ) → Bounded i n part (pass_rows line n i m highest part)
bounded line zero i m highest part = none_found i 0 i m highest part (omega arith)
bounded line (suc n) i m highest part =
    let x = get_or part i 0 in
    let s = line_score line m x in
    let seen = greater (order_in line) highest (get_or part (best_at i) 0) in
    let one = in_reach line part i in
    let matter = matters line seen m x in
    let top = cond matter (greater (order_in line) seen s) seen in
    let after = cond matter (entered line.fractions part i s seen) part in
    go (candidate_test matter one line.back i) (lowered m one) top (kept matter s seen) (bounded line n (suc i) (lowered m one) top after)
  where
    kept : (b : Bool) (s seen : ℕ) → length (cond b (entered line.fractions part i s seen) part) ≡ length part
    kept true s seen = length_entered line.fractions part i s seen
    kept false s seen = refl

    go : (b : Bool) (rest higher : ℕ) {after : List ℕ} {later : Update} → length after ≡ length part → Bounded (suc i) n after later
        → Bounded i (suc n) part (cond b (behind true (suc i) rest higher after) later)
    go true rest higher e r = record {
      from = le-suc i;
      to = omega arith;
      whole = λ f. absurd (true≢false f);
      moved = λ f. le_refl (suc i);
      size = e;
    }
    go false rest higher e r = record {
      from = omega (arith, r.from);
      to = omega (arith, r.to);
      whole = λ f. let w = r.whole f in omega arith;
      moved = λ f. omega (arith, r.from);
      size = r.size ∙ e;
    }

-- ---- the rest of one block

-- it has a row, since its block and the column end behind one
pub rest_moves : (line : Line) (i : ℕ) → i ≤ line.column → suc i ≤ rest_end line i
unfolding rest_end
rest_moves line i h = omega arith

-- where it is skipped, it ends within the rows that are asked for
skips_within : (line : Line) (to i m highest : ℕ) (part : List ℕ) → skips line to i m highest part ≡ true → rest_end line i ≤ to
unfolding skips
skips_within line to i m highest part t = leb-true (rest_end line i) to (and_left (leb (rest_end line i) to) _ t)

module _ (line : Line) (to i m highest : ℕ) (part : List ℕ) where
  abbrev rest : Update
  rest = pass_rest line to i m highest part

  pub rest_skip : skips line to i m highest part ≡ true → rest ≡ record { answer = skipped line i highest part; part = part }
  unfolding pass_rest
  rest_skip t = rw t

  pub rest_rows : skips line to i m highest part ≡ false → rest ≡ pass_rows line (min (rest_end line i) to - i) i m highest part
  unfolding pass_rest
  rest_rows t = rw t

  module _ (h : i < to) (b : to ≤ line.column + 1) where
    -- it is passed whole, or up to a candidate
    pub rest_bounded : Bounded i (min (rest_end line i) to - i) part rest
    unfolding pass_rest skipped
    rest_bounded = go (skips line to i m highest part) (skips_within line to i m highest part)
      where
        go : (t : Bool) → (t ≡ true → rest_end line i ≤ to)
            → Bounded i (min (rest_end line i) to - i) part
            (cond t (record { answer = skipped line i highest part; part = part }) (pass_rows line (min (rest_end line i) to - i) i m highest part))
        go true w =
            let r = rest_moves line i (omega arith) in
            let l = w refl in
            none_found i (min (rest_end line i) to - i) (rest_end line i) _ _ part (omega arith)
        go false w = bounded line (min (rest_end line i) to - i) i m highest part

    pub rest_within : rest.answer.row ≤ to
    rest_within = omega (arith, rest_bounded.to, rest_moves line i (omega arith))

    pub rest_moved : suc i ≤ rest.answer.row
    rest_moved = go rest.answer.found refl
      where
        go : (t : Bool) → rest.answer.found ≡ t → suc i ≤ rest.answer.row
        go true e = rest_bounded.moved e
        go false e = omega (arith, rest_bounded.whole e, rest_moves line i (omega arith))

-- ---- block by block

module _ (line : Line) (to i m highest : ℕ) (part : List ℕ) where
  -- where there is a row to pass, the rest of its block and then what is passed later
  abbrev rest_then : Bool → Update → Update
  rest_then t later =
      cond t (cond (rest line to i m highest part).answer.found (rest line to i m highest part) later) (behind false i m highest part)

  same_later : (t : Bool) → ltb i to ≡ t → {later other : Update} → (i < to → later ≡ other) → rest_then t later ≡ rest_then t other
  same_later true e same = rw (same (ltb-true i to e))
  same_later false e same = refl

  no_rows : (n : ℕ) → to ≤ i → pass_blocks line n to i m highest part ≡ behind false i m highest part
  no_rows zero l = refl
  no_rows (suc n) l = rw (le-ltb i to l)

-- as many blocks as there are rows are enough
enough : (line : Line) (n k to i m highest : ℕ) (part : List ℕ) → to ≤ line.column + 1 → to - i ≤ n → to - i ≤ k
    → pass_blocks line n to i m highest part ≡ pass_blocks line k to i m highest part
enough line zero k to i m highest part b p q = sym (no_rows line to i m highest part k (omega arith))
enough line (suc n) zero to i m highest part b p q = no_rows line to i m highest part (suc n) (omega arith)
enough line (suc n) (suc k) to i m highest part b p q =
    let r = rest line to i m highest part in
    same_later line to i m highest part (ltb i to) refl (λ h.
    let l = rest_moved line to i m highest part h b in
    enough line n k to r.answer.row r.answer.m r.answer.highest r.part b (omega arith) (omega arith))

module _ (line : Line) (to i m highest : ℕ) (part : List ℕ) (h : i < to) (b : to ≤ line.column + 1) where
  abbrev first : Update
  first = rest line to i m highest part

  -- n blocks behind the first
  abbrev later : ℕ → Update
  later n = pass_blocks line n to first.answer.row first.answer.m first.answer.highest first.part

  by_rest : pass_blocks line (to - i) to i m highest part ≡ cond first.answer.found first (later (to - first.answer.row))
  by_rest =
      let l = rest_moved line to i m highest part h b in
      let n : to - i ≡ suc (to - suc i) = omega arith in
      let e : later (to - suc i) ≡ later (to - first.answer.row) =
      enough line (to - suc i) (to - first.answer.row) to first.answer.row _ _ _ b (omega arith) (omega arith) in
      rw (n, lt-ltb i to h, e)

  pub blocks_stop : first.answer.found ≡ true → pass_blocks line (to - i) to i m highest part ≡ first
  blocks_stop t = by_rest ∙ rw t

  pub blocks_on : first.answer.found ≡ false → pass_blocks line (to - i) to i m highest part ≡ later (to - first.answer.row)
  blocks_on t = by_rest ∙ rw t

  first_then_bounded : (t : Bool) → first.answer.found ≡ t → {u : Update} → Bounded first.answer.row (to - first.answer.row) first.part u
      → Bounded i (to - i) part (cond t first u)
  first_then_bounded true e r =
      let bounds = rest_bounded line to i m highest part h b in
      record {
        from = bounds.from;
        to = omega (arith, rest_within line to i m highest part h b);
        whole = λ g. absurd (true≢false (sym e ∙ g));
        moved = bounds.moved;
        size = bounds.size;
      }
  first_then_bounded false e r =
      let l = rest_moved line to i m highest part h b in
      let k = rest_within line to i m highest part h b in
      record {
        from = omega (arith, r.from);
        to = omega (arith, r.to);
        whole = λ g. let w = r.whole g in omega arith;
        moved = λ g. omega (arith, r.from);
        size = r.size ∙ (rest_bounded line to i m highest part h b).size;
      }

pub blocks_bounded : (line : Line) (n to i m highest : ℕ) (part : List ℕ) → i ≤ to → to ≤ line.column + 1 → to - i ≤ n
    → Bounded i (to - i) part (pass_blocks line n to i m highest part)
blocks_bounded line zero to i m highest part a b f = none_found i (to - i) i m highest part (omega arith)
blocks_bounded line (suc n) to i m highest part a b f =
    let r = rest line to i m highest part in
    go (ltb i to) refl (λ h.
    let l = rest_moved line to i m highest part h b in
    blocks_bounded line n to r.answer.row r.answer.m r.answer.highest r.part (rest_within line to i m highest part h b) b (omega arith))
  where
    go : (t : Bool) → ltb i to ≡ t → {u : Update}
        → (i < to → let r = rest line to i m highest part in Bounded r.answer.row (to - r.answer.row) r.part u)
        → Bounded i (to - i) part (rest_then line to i m highest part t u)
    go true e r =
        let h = ltb-true i to e in
        first_then_bounded line to i m highest part h b (rest line to i m highest part).answer.found refl (r h)
    go false e r = none_found i (to - i) i m highest part (omega (arith, ltb-false i to e))
