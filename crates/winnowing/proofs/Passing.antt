-- One window more: what is put, and what a run has still to pick, before and after it.
use Prim.Native.Nat.{ℕ, zero, suc, ◌+◌, ◌-◌, ◌≤◌, ◌<◌}
use native.Mathlib.Nat.{le_refl, add-zero, le_trans}
use native.Mathlib.Numerals.{add-one}
use native.Mathlib.Omega.{arith}
use mathlib.Core.Path.{◌≡◌, refl, sym, ap, ◌∙◌, subst, subst₂}
use mathlib.Core.Bool.{Bool, true, false}
use mathlib.Core.List.{List, [], ◌∷◌, ◌++◌}
use lib.Dec.{ltb}
use lib.ListN.{length, get_or}
use Rattle.std.specs.Prelude.{Option, Some, None}
use borrow.Author.Tests.{ltb-true, ltb-false}
use Rattle.kmers.specs.Letters.{value, foreign}
use Rattle.kmers.specs.Kmers.{Entry}
use Rattle.kmers.specs.Places.{code_at, rank_at, run_end}
use Rattle.kmers.specs.Ranks.{unrank}
use Rattle.kmers.proofs.Ranks.{unrank_rank}
use Rattle.minimizers.specs.Places.{span_sketch, sketch_from, IsLowest, picked_from}
use Rattle.minimizers.proofs.Runs.{run_end_within, sketch_from_run}
use Rattle.minimizers.proofs.Picks.{lowest_new, lowest_kept, lowest_moved, picked_new, picked_old, picked_none}
use Rattle.minimizers.proofs.Picks.{span_sketch_none, span_sketch_short, span_sketch_long}
use Rattle.winnowing.specs.Winnowed.{written}
use Rattle.winnowing.specs.Blocks.{back_size, slot_of}
use Rattle.winnowing.specs.Scan.{Scanned, IsPut, SameEnd, to_pick, NextRun}
use Rattle.winnowing.proofs.Loops.{RunsPut, NextPut, left}
use Rattle.winnowing.proofs.Steps.{end_here}

-- what is put stood first among what was to come
put_first : (room n code position n' : ℕ) (cs ps cs' ps' : List ℕ) → IsPut room n code position n' cs ps cs' ps'
    → (es : List Entry) → written room n' cs' ps' es ≡ written room n cs ps (record { code = code; position = position } ∷ es)
put_first room n code position n' cs ps cs' ps' is es = rw (is.counted, is.codes_after, is.positions_after)

-- ---- what the slots tell

module _ (last base : ℕ) (letters ranks : List ℕ) (first at code : ℕ) (scanned : Scanned last base letters ranks first at code)
    (begins : base ≤ at + last) where
  -- the lowest of the last n slots is that of the last n positions, and its code is taken back from its rank
  pub slot_lowest : (n low_at low : ℕ) → n ≤ back_size → first + n ≤ at → at ≤ slot_of last base at + low_at
      → IsLowest (λ (i : ℕ). get_or ranks i 0) (slot_of last base at - n) (slot_of last base at) (slot_of last base at - (at - low_at))
      → low ≡ get_or ranks (slot_of last base at - (at - low_at)) 0
      → IsLowest (rank_at (suc last) letters) (at - n) at low_at × (low ≡ rank_at (suc last) letters low_at)
      × (unrank low ≡ code_at (suc last) letters low_at)
  unfolding rank_at
  slot_lowest n low_at low few known near is e =
      (record { first = from; last = to; left = left; right = right }, e ∙ lowest_rank, ap unrank (e ∙ lowest_rank) ∙ back)
    where
      reaches : base ≤ first + last + back_size
      reaches = scanned.reaches

      to : low_at < at
      to = omega (arith, is.last)

      from : at - n ≤ low_at
      from = omega (arith, is.first, to)

      there : slot_of last base at - (at - low_at) ≡ slot_of last base low_at
      there = omega (arith, from, to)

      lowest_rank : get_or ranks (slot_of last base at - (at - low_at)) 0 ≡ rank_at (suc last) letters low_at
      lowest_rank = ap (λ (i : ℕ). get_or ranks i 0) there ∙ scanned.ranked low_at (omega (arith, from)) to

      back : unrank (rank_at (suc last) letters low_at) ≡ code_at (suc last) letters low_at
      back = unrank_rank (code_at (suc last) letters low_at) (scanned.small low_at (omega (arith, from)) to)

      left : (q : ℕ) → at - n ≤ q → q < low_at → rank_at (suc last) letters low_at ≤ rank_at (suc last) letters q
      left q h l =
          subst₂ (λ (x y : ℕ). x ≤ y) lowest_rank (scanned.ranked q (omega arith) (omega (arith, to)))
          (is.left (slot_of last base q) (omega (arith, to)) (omega (arith, there)))

      right : (q : ℕ) → low_at < q → q < at → rank_at (suc last) letters low_at < rank_at (suc last) letters q
      right q h l =
          subst₂ (λ (x y : ℕ). x < y) lowest_rank (scanned.ranked q (omega (arith, from)) l)
          (is.right (slot_of last base q) (omega (arith, there)) (omega (arith, from)))

-- ---- one window more

module _ (last w room to : ℕ) (letters : List ℕ) (some : 1 ≤ w) (i b p : ℕ) (wide : i + w ≡ b) (within : b ≤ to)
    (is : IsLowest (rank_at (suc last) letters) i b p) where
  here : IsLowest (rank_at (suc last) letters) i (i + w) p
  here = subst (λ (x : ℕ). IsLowest (rank_at (suc last) letters) i x p) (sym wide) is

  -- the lowest of a window is put where it is new
  pub window_new : (m n code n' : ℕ) (cs ps cs' ps' : List ℕ) → m ≤ p → code ≡ code_at (suc last) letters p
      → IsPut room n code p n' cs ps cs' ps'
      → SameEnd room n' cs' ps' (picked_from (suc last) w letters to (suc i) (suc p)) n cs ps (picked_from (suc last) w letters to i m)
  window_new m n code n' cs ps cs' ps' h e put es =
      put_first room n code p n' cs ps cs' ps' put (picked_from (suc last) w letters to (suc i) (suc p) ++ es)
      ∙ ap (λ (x : ℕ). written room n cs ps (record { code = x; position = p } ∷ (picked_from (suc last) w letters to (suc i) (suc p) ++ es))) e
      ∙ ap (λ (l : List Entry). written room n cs ps (l ++ es))
      (sym (picked_new (suc last) letters w to some i m p (subst (λ (x : ℕ). x ≤ to) (sym wide) within) here h))

  -- and nothing is where it is not
  window_old : (m : ℕ) → p < m → picked_from (suc last) w letters to i m ≡ picked_from (suc last) w letters to (suc i) m
  window_old m h = picked_old (suc last) letters w to some i m p (subst (λ (x : ℕ). x ≤ to) (sym wide) within) here h

-- ---- windows with the same lowest

module _ (last w room : ℕ) (letters : List ℕ) (from : ℕ) (some : 1 ≤ w) (low_at low : ℕ) (is_rank : low ≡ rank_at (suc last) letters low_at) where
  -- one window more
  kept_one : (p : ℕ) → w ≤ p → IsLowest (rank_at (suc last) letters) (p - w) p low_at → p < low_at + w → p + last < run_end letters from
      → low < rank_at (suc last) letters p
      → IsLowest (rank_at (suc last) letters) (suc p - w) (suc p) low_at
      × (to_pick last w letters from (suc (p - w)) (suc low_at) ≡ to_pick last w letters from (suc (suc p - w)) (suc low_at))
  kept_one p wide is stays within above =
      let next : suc p - w ≡ suc (p - w) = omega arith in
      let lowest : IsLowest (rank_at (suc last) letters) (suc (p - w)) (suc p) low_at =
      lowest_moved (rank_at (suc last) letters) (p - w) (suc p) low_at
      (lowest_kept (rank_at (suc last) letters) (p - w) p low_at is (subst (λ (x : ℕ). x < rank_at (suc last) letters p) is_rank above))
      (omega (arith, is.last)) in (
        rw next lowest,
        rw next
            (window_old last w room (run_end letters from - last) letters some (suc (p - w)) (suc p) low_at (omega arith) (omega arith) lowest
            (suc low_at) (le_refl (suc low_at))),
      )

  -- any number of them
  kept_many : (n p : ℕ) → w ≤ p → IsLowest (rank_at (suc last) letters) (p - w) p low_at → p + n ≤ low_at + w
      → p + n + last ≤ run_end letters from
      → ((q : ℕ) → p ≤ q → q < p + n → low < rank_at (suc last) letters q)
      → IsLowest (rank_at (suc last) letters) (p + n - w) (p + n) low_at
      × (to_pick last w letters from (suc (p - w)) (suc low_at) ≡ to_pick last w letters from (suc (p + n - w)) (suc low_at))
  kept_many zero p wide is stays within above = rw (add-zero p) (is, refl)
  kept_many (suc n) p wide is stays within above =
      let one = kept_one p wide is (omega arith) (omega arith) (above p (le_refl p) (omega arith)) in
      let many = kept_many n (suc p) (omega arith) one.0 (omega arith) (omega arith) (λ q a b. above q (omega arith) (omega arith)) in
      let same : suc p + n ≡ p + suc n = omega arith in
      let picks : to_pick last w letters from (suc (p - w)) (suc low_at) ≡ to_pick last w letters from (suc (suc p + n - w)) (suc low_at) =
      one.1 ∙ many.1 in
      (rw same at many.0, rw same at picks)

  -- up to a position
  pub kept : (p at : ℕ) → w ≤ p → IsLowest (rank_at (suc last) letters) (p - w) p low_at → p ≤ at → at ≤ low_at + w
      → at + last ≤ run_end letters from
      → ((q : ℕ) → p ≤ q → q < at → low < rank_at (suc last) letters q)
      → IsLowest (rank_at (suc last) letters) (at - w) at low_at
      × (to_pick last w letters from (suc (p - w)) (suc low_at) ≡ to_pick last w letters from (suc (at - w)) (suc low_at))
  kept p at wide is start stays within above =
      let same : p + (at - p) ≡ at = omega arith in
      rw same at (kept_many (at - p) p wide is (omega arith) (omega arith) (λ q a b. above q a (omega arith)))

-- ---- windows with a new lowest

module _ (last w room : ℕ) (letters : List ℕ) (from : ℕ) (some : 1 ≤ w) (low_at p at n n' code : ℕ) (cs ps cs' ps' : List ℕ) (wide : w ≤ at)
    (picks_alike : to_pick last w letters from (suc (p - w)) (suc low_at) ≡ to_pick last w letters from (suc (at - w)) (suc low_at)) where
  -- the k-mer at the position is the lowest, and is put
  pub put_new : IsLowest (rank_at (suc last) letters) (at - w) at low_at → at + last < run_end letters from
      → rank_at (suc last) letters at ≤ rank_at (suc last) letters low_at → code ≡ code_at (suc last) letters at
      → IsPut room n code at n' cs ps cs' ps'
      → IsLowest (rank_at (suc last) letters) (at + 1 - w) (at + 1) at
      × SameEnd room n' cs' ps' (to_pick last w letters from (suc (at + 1 - w)) (suc at)) n cs ps (to_pick last w letters from (suc (p - w)) (suc low_at))
  put_new is within below there put =
      let next : at + 1 - w ≡ suc (at - w) = omega arith in
      let lowest : IsLowest (rank_at (suc last) letters) (suc (at - w)) (suc at) at =
      lowest_moved (rank_at (suc last) letters) (at - w) (suc at) at (lowest_new (rank_at (suc last) letters) (at - w) at low_at is below) (omega arith) in (
        rw (next, add-one at) lowest,
        λ es. rw (next, picks_alike)
            (window_new last w room (run_end letters from - last) letters some (suc (at - w)) (suc at) at (omega arith) (omega arith) lowest
            (suc low_at) n code n' cs ps cs' ps' is.last there put es),
      )

-- ---- one block more

-- what is put after what was put
pub put_behind : (room n n' n₀ : ℕ) (cs ps cs' ps' cs₀ ps₀ : List ℕ) (left more all : List Entry)
    → SameEnd room n' cs' ps' left n cs ps more → SameEnd room n cs ps more n₀ cs₀ ps₀ all
    → SameEnd room n' cs' ps' left n₀ cs₀ ps₀ all
put_behind room n n' n₀ cs ps cs' ps' cs₀ ps₀ left more all next so_far es = next es ∙ so_far es

-- what is put from a later place of a run on comes behind what was put up to there
pub put_on : (last w room : ℕ) (letters : List ℕ) (from at i m i' m' : ℕ) → run_end letters at ≡ run_end letters from
    → (n n' n₀ : ℕ) (cs ps cs' ps' cs₀ ps₀ : List ℕ) (all : List Entry)
    → SameEnd room n' cs' ps' (to_pick last w letters at i' m') n cs ps (to_pick last w letters at i m)
    → SameEnd room n cs ps (to_pick last w letters from i m) n₀ cs₀ ps₀ all
    → SameEnd room n' cs' ps' (to_pick last w letters from i' m') n₀ cs₀ ps₀ all
put_on last w room letters from at i m i' m' same n n' n₀ cs ps cs' ps' cs₀ ps₀ all more so_far es = (rw same at (more es)) ∙ so_far es

-- ---- one run

module _ (last w room : ℕ) (letters : List ℕ) (some : 1 ≤ w) (from to n : ℕ) (cs ps : List ℕ) where
  -- a run with no k-mer puts nothing
  pub run_none : to ≤ from → SameEnd room n cs ps [] n cs ps (span_sketch (suc last) w letters from to)
  run_none h es = ap (λ (l : List Entry). written room n cs ps (l ++ es)) (sym (span_sketch_none (suc last) letters w to some from h))

  -- a run with fewer k-mers than w puts the lowest of all
  pub run_short : (p code n' : ℕ) (cs' ps' : List ℕ) → to < from + w → IsLowest (rank_at (suc last) letters) from to p
      → code ≡ code_at (suc last) letters p
      → IsPut room n code p n' cs ps cs' ps' → SameEnd room n' cs' ps' [] n cs ps (span_sketch (suc last) w letters from to)
  run_short p code n' cs' ps' h is e put es =
      put_first room n code p n' cs ps cs' ps' put es
      ∙ ap (λ (x : ℕ). written room n cs ps (record { code = x; position = p } ∷ es)) e
      ∙ ap (λ (l : List Entry). written room n cs ps (l ++ es)) (sym (span_sketch_short (suc last) letters w to some from p h is))

  -- a longer one puts what its windows pick
  pub run_long : (n' : ℕ) (cs' ps' : List ℕ) → from + w ≤ to
      → SameEnd room n' cs' ps' [] n cs ps (picked_from (suc last) w letters to from from)
      → SameEnd room n' cs' ps' [] n cs ps (span_sketch (suc last) w letters from to)
  run_long n' cs' ps' h put = rw (span_sketch_long (suc last) letters w to some from h) put

-- with windows of one k-mer each k-mer is picked
pub run_ones : (last : ℕ) (letters : List ℕ) (from to : ℕ) → picked_from (suc last) 1 letters to from from ≡ span_sketch (suc last) 1 letters from to
run_ones last letters from to = go (ltb from to) refl
  where
    go : (b : Bool) → ltb from to ≡ b → picked_from (suc last) 1 letters to from from ≡ span_sketch (suc last) 1 letters from to
    go true e = sym (span_sketch_long (suc last) letters 1 to (le_refl 1) from (omega (arith, ltb-true from to e)))
    go false e =
        picked_none (suc last) letters 1 to (le_refl 1) from from (omega (arith, ltb-false from to e))
        ∙ sym (span_sketch_none (suc last) letters 1 to (le_refl 1) from (ltb-false from to e))

-- what stands behind the run is then still to come
pub run_passed : (k w room at e n n' : ℕ) (letters cs ps cs' ps' : List ℕ) → 1 ≤ k → at ≤ length letters → e ≡ run_end letters at
    → SameEnd room n' cs' ps' [] n cs ps (span_sketch (suc (k - 1)) w letters at (run_end letters at - (k - 1)))
    → written room n' cs' ps' (sketch_from k w letters (e + 1)) ≡ written room n cs ps (sketch_from k w letters at)
run_passed k w room at e n n' letters cs ps cs' ps' some h ended put =
    let whole : suc (k - 1) ≡ k = omega arith in
    let to : run_end letters at - (k - 1) ≡ suc (run_end letters at) - k = omega arith in
    let behind : e + 1 ≡ suc (run_end letters at) = omega arith in
    let rest : List Entry = sketch_from k w letters (suc (run_end letters at)) in
    let first : written room n' cs' ps' (sketch_from k w letters (e + 1))
    ≡ written room n cs ps (span_sketch (suc (k - 1)) w letters at (run_end letters at - (k - 1)) ++ rest) = rw behind (put rest) in
    let all : span_sketch (suc (k - 1)) w letters at (run_end letters at - (k - 1)) ++ rest ≡ sketch_from k w letters at =
    rw (whole, to) (sym (sketch_from_run k w at letters some h)) in
    first ∙ ap (written room n cs ps) all

-- a letter outside the eight ends a run of no letters
pub foreign_passed : (k w at : ℕ) (letters : List ℕ) → 1 ≤ k → 1 ≤ w → at < length letters → value (get_or letters at 0) ≡ foreign
    → sketch_from k w letters (at + 1) ≡ sketch_from k w letters at
foreign_passed k w at letters some wide h stop =
    let within : at ≤ length letters = omega arith in
    let ended : at ≡ run_end letters at = end_here letters at at (le_refl at) (run_end_within letters at within).0 stop in
    let behind : at + 1 ≡ suc (run_end letters at) = omega arith in
    let none : span_sketch k w letters at (suc (run_end letters at) - k) ≡ [] =
    span_sketch_none k letters w (suc (run_end letters at) - k) wide at (omega arith) in
    sym (sketch_from_run k w at letters some within ∙ rw (none, behind))

-- the runs in front of a position are passed, so they are in front of the next run from there on
pub next_put : (k w room base from n : ℕ) (letters letters' cs₀ ps₀ cs ps : List ℕ) (next : Option ℕ) → 1 ≤ k → 1 ≤ w
    → RunsPut k w room letters letters' base from n cs₀ ps₀ cs ps → NextRun letters from next
    → NextPut k w room letters letters' base next n cs₀ ps₀ cs ps
next_put k w room base from n letters letters' cs₀ ps₀ cs ps None some wide put is = ap (written room n cs ps) (sym (is k w some wide)) ∙ put.put
next_put k w room base from n letters letters' cs₀ ps₀ cs ps (Some at) some wide put is = (
  is.within,
  record {
    same = put.same;
    begins = le_trans put.begins is.start;
    counted = le_trans put.counted is.start;
    within = omega (arith, is.within);
    has_room = put.has_room;
    put = ap (written room n cs ps) (is.same k w some wide) ∙ put.put;
  },
)

-- fewer positions are left from the next run on
pub fewer_left : (at from : ℕ) (letters : List ℕ) (next : Option ℕ) → at < from → at ≤ length letters → NextRun letters from next
    → left (length letters) next < suc (length letters) - at
fewer_left at from letters None more within is = omega arith
fewer_left at from letters (Some next) more within is = omega (arith, is.start, is.within)
