-- The tests of words 0 to 4 in the code's order, against 15 as document 01 states it; and the test for a step of one cell.
use Prim.Native.Nat.{ℕ, ◌+◌, ◌*◌, ◌/◌, ◌≤◌, ◌<◌}
use native.Mathlib.Nat.{mul-le-mul}
use native.Mathlib.Numerals.{add-one}
use native.Mathlib.Omega.{arith}
use mathlib.Core.Path.{◌≡◌, sym}
use mathlib.Core.Bool.{Bool, true, false, cond, ◌||◌, ◌&&◌, false≢true}
use mathlib.Core.List.{List}
use lib.Dec.{ltb, eqb}
use lib.ListN.{get_or}
use borrow.Author.Tests.{lt-ltb, le-ltb, ltb-false, ltb-true, eqb-true}
use Rattle.base.specs.Limits.{outside, weight_limit, divisor_limit, hit_limit}
use Rattle.base.proofs.Lists.{or_neither, and_left, and_right}
use Rattle.mappings.specs.Cells.{cell_count}
use Rattle.session_words.specs.FirstWords.{hits_at, u_at, v_at, passed_at, kind_at}
use Rattle.session_start.specs.Start.{bad_weights, bad_fraction}
use Rattle.mapper.specs.Step.{bad_scoring, bad_words}

module _ (work : List ℕ) (h : ℕ) (eh : h ≡ get_or work hits_at 0) where
  pub many_hits : hit_limit < h → true ≡ bad_words work
  unfolding bad_words
  many_hits a = rw (← eh, lt-ltb hit_limit h a)

  module _ (a : h ≤ hit_limit) where
    pub bad_numbers : bad_scoring (get_or work kind_at 0) (get_or work u_at 0) (get_or work v_at 0) ≡ true → true ≡ bad_words work
    unfolding bad_words
    bad_numbers b = rw (← eh, le-ltb hit_limit h a, b)

    pub many_cells : bad_scoring (get_or work kind_at 0) (get_or work u_at 0) (get_or work v_at 0) ≡ false → (passed : ℕ) → passed ≡ get_or work passed_at 0
        → ltb (h * (h + 1) / 2) passed ≡ bad_words work
    unfolding bad_words cell_count
    many_cells b passed f = rw (← eh, le-ltb hit_limit h a, b, add-one, f)

  pub cells_fit : h ≤ hit_limit → h * (h + 1) ≤ hit_limit * (hit_limit + 1)
  cells_fit a = mul-le-mul a (let e : h + 1 ≤ hit_limit + 1 = omega arith in e)

-- the two numbers of a scoring that is not bad are small, whatever its kind
small_numbers : (kind first second : ℕ) → bad_scoring kind first second ≡ false → (first ≤ weight_limit) × (second ≤ weight_limit)
unfolding bad_weights bad_fraction
small_numbers kind first second = linear (eqb kind 0)
  where
    fraction : (b : Bool) → cond b (bad_fraction first second) true ≡ false → (first ≤ weight_limit) × (second ≤ weight_limit)
    fraction true e =
        let both = or_neither (outside 1 divisor_limit second) (ltb second first) e in
        let g = ltb-false divisor_limit second (or_neither (ltb second 1) (ltb divisor_limit second) both.0).1 in
        let f = ltb-false second first both.1 in
        (omega arith, g)
    fraction false e = absurd (false≢true (sym e))

    linear : (b : Bool) → cond b (bad_weights first second) (cond (eqb kind 1) (bad_fraction first second) true) ≡ false
        → (first ≤ weight_limit) × (second ≤ weight_limit)
    linear true e =
        let both = or_neither (outside 1 weight_limit first) (outside 1 weight_limit second) e in (
          ltb-false weight_limit first (or_neither (ltb first 1) (ltb weight_limit first) both.0).1,
          ltb-false weight_limit second (or_neither (ltb second 1) (ltb weight_limit second) both.1).1,
        )
    linear false e = fraction (eqb kind 1) e

-- words that are not bad: small h, and small numbers of the scoring
pub record GoodWords (work : List ℕ) : Type 0 where
  pub few_hits : get_or work hits_at 0 ≤ hit_limit
  pub small : (get_or work u_at 0 ≤ weight_limit) × (get_or work v_at 0 ≤ weight_limit)

pub good_words : (work : List ℕ) → bad_words work ≡ false → GoodWords work
unfolding bad_words
good_words work e =
    let h = get_or work hits_at 0 in
    let bad = bad_scoring (get_or work kind_at 0) (get_or work u_at 0) (get_or work v_at 0) in
    let hw = or_neither (ltb hit_limit h || bad) (ltb (cell_count h) (get_or work passed_at 0)) e in
    let both = or_neither (ltb hit_limit h) bad hw.0 in
    record {
      few_hits = ltb-false hit_limit h both.0;
      small = small_numbers (get_or work kind_at 0) (get_or work u_at 0) (get_or work v_at 0) both.1;
    }

-- a budget of one cell, and a further row in its column
pub one_inside : (budget row columns : ℕ) → (ltb (row + 1) columns && eqb budget 1) ≡ true → (budget ≡ 1) × (row + 1 < columns)
one_inside budget row columns e =
    (eqb-true budget 1 (and_right (ltb (row + 1) columns) (eqb budget 1) e), ltb-true (row + 1) columns (and_left (ltb (row + 1) columns) (eqb budget 1) e))
