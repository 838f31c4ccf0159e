-- One letter more: what a scan knows of the run's end, of the code in hand and of the ranks in their slots.
use Prim.Native.Nat.{ℕ, suc, ◌+◌, ◌*◌, ◌-◌, ◌%◌, ◌^◌, ◌≤◌, ◌<◌}
use native.Mathlib.Nat.{le_refl, le_antisymm, lt_of_lt_of_le, pow-le-pow_right}
use native.Mathlib.Numerals.{add-one}
use native.Mathlib.Omega.{arith}
use mathlib.Core.Path.{◌≡◌, refl, sym, ap, ◌∙◌, subst}
use mathlib.Core.Bool.{Bool, true, false, cond}
use mathlib.Core.List.{List, [], ◌∷◌}
use lib.Dec.{ltb, lit<}
use lib.ListN.{length, get_or, set, drop, length-set}
use lib.Seq.{get_or-drop, get_or-set_same, get_or-set_other}
use borrow.Author.Count.{below_more}
use borrow.Author.Tests.{eq-eqb, ne_eqb, ltb-true, ltb-false}
use Rattle.base.proofs.Lists.{clash}
use Rattle.base.specs.Limits.{k_limit}
use Rattle.kmers.specs.Letters.{value, is_foreign, foreign}
use Rattle.kmers.specs.Kmers.{rank}
use Rattle.kmers.specs.Places.{code_at, rank_at, run_length, run_end}
use Rattle.winnowing.specs.Blocks.{block_size, slot_of}
use Rattle.winnowing.specs.Scan.{InHand, Scanned}
use Rattle.kmers.proofs.Codes.{value_below, cut_digit, code_at_below, code_at_suc, code_at_cut}
use Rattle.minimizers.proofs.Runs.{run_end_within, run_letters}

run_stop : (l : List ℕ) → is_foreign (get_or l (run_length l) 0) ≡ true
unfolding is_foreign value
run_stop [] = refl
run_stop (a ∷ l) = go (is_foreign a) refl (run_stop l)
  where
    go : (b : Bool) → is_foreign a ≡ b → is_foreign (get_or l (run_length l) 0) ≡ true
        → is_foreign (get_or (a ∷ l) (cond b 0 (suc (run_length l))) 0) ≡ true
    go true e rec = e
    go false e rec = rec

-- what stands at the end of a run is no letter of the eight
run_end_stop : (letters : List ℕ) (from : ℕ) → is_foreign (get_or letters (run_end letters from) 0) ≡ true
unfolding run_end
run_end_stop letters from = ap is_foreign (sym (get_or-drop from letters (run_length (drop from letters)) 0)) ∙ run_stop (drop from letters)

-- a run does not go past such a place
end_before : (letters : List ℕ) (from e : ℕ) → from ≤ e → is_foreign (get_or letters e 0) ≡ true → run_end letters from ≤ e
end_before letters from e h stop = go (ltb e (run_end letters from)) refl
  where
    go : (b : Bool) → ltb e (run_end letters from) ≡ b → run_end letters from ≤ e
    go true l = clash stop (run_letters letters from e h (ltb-true e (run_end letters from) l))
    go false l = ltb-false e (run_end letters from) l

-- the value of a letter that is none of those outside the eight
pub digit_below : (b v : ℕ) → v ≡ value b → (v ≡ foreign → ⊥) → v < 4
unfolding is_foreign
digit_below b v e h = subst (λ (x : ℕ). x < 4) (sym e) (value_below b (ne_eqb (value b) foreign (λ f. h (e ∙ f))))

module _ (letters : List ℕ) (from at : ℕ) (start : from ≤ at) (within : at ≤ run_end letters from) where
  -- the run ends at a letter outside the eight, or past the last one
  pub end_here : value (get_or letters at 0) ≡ foreign → at ≡ run_end letters from
  unfolding is_foreign
  end_here h = le_antisymm within (end_before letters from at start (eq-eqb (value (get_or letters at 0)) foreign h))

  -- it goes on at a letter of the eight
  end_later : (value (get_or letters at 0) ≡ foreign → ⊥) → at < run_end letters from
  unfolding is_foreign
  end_later h = go (ltb at (run_end letters from)) refl
    where
      go : (b : Bool) → ltb at (run_end letters from) ≡ b → at < run_end letters from
      go true e = ltb-true at (run_end letters from) e
      go false e =
          let same : run_end letters from ≡ at = omega (arith, ltb-false at (run_end letters from) e) in
          clash (subst (λ (x : ℕ). is_foreign (get_or letters x 0) ≡ true) same (run_end_stop letters from)) (ne_eqb (value (get_or letters at 0)) foreign h)

  -- as where a digit is read
  pub run_goes_on : (v : ℕ) → v ≡ value (get_or letters at 0) → v < 4 → at < run_end letters from
  run_goes_on v e h = end_later (λ f. omega (arith, e ∙ f))

  -- the run is the same from any letter of it on
  pub run_end_same : run_end letters at ≡ run_end letters from
  unfolding run_end
  run_end_same =
      le_antisymm
      (end_before letters at (run_end letters from) within (run_end_stop letters from))
      (end_before letters from (run_end letters at) (omega arith) (run_end_stop letters at))

-- ---- the code in hand

module _ (letters : List ℕ) (from : ℕ) (in_letters : from ≤ length letters) where
  -- n letters of a run, n at most 15, have a code below 4^15
  pub code_small : (p n : ℕ) → from ≤ p → p + n ≤ run_end letters from → n ≤ k_limit → code_at n letters p < 4 ^ k_limit
  code_small p n a b h =
      let within : run_end letters from ≤ length letters = (run_end_within letters from in_letters).1 in
      lt_of_lt_of_le (code_at_below letters n p (omega arith) (λ q c d. run_letters letters from q (omega arith) (omega arith))) (pow-le-pow_right (lit< tt) h)

  -- so has the code of the first letters of a run
  pub code_fits : (at code : ℕ) → from ≤ at → at ≤ run_end letters from → at - from ≤ k_limit → code ≡ code_at (at - from) letters from
      → code < 4 ^ k_limit
  code_fits at code a b h e = subst (λ (x : ℕ). x < 4 ^ k_limit) (sym e) (code_small from (at - from) (le_refl from) (omega arith) h)

  -- one letter more of a run's first k-mer
  pub code_longer : (at code : ℕ) → from ≤ at → at < run_end letters from → code ≡ code_at (at - from) letters from
      → code * 4 + value (get_or letters at 0) ≡ code_at (at + 1 - from) letters from
  code_longer at code a b h =
      let within : run_end letters from ≤ length letters = (run_end_within letters from in_letters).1 in
      let there : from + (at - from) ≡ at = omega arith in
      let next : at + 1 - from ≡ suc (at - from) = omega arith in
      let step : code_at (suc (at - from)) letters from ≡ 4 * code_at (at - from) letters from + value (get_or letters (from + (at - from)) 0) =
      code_at_suc letters (at - from) from (omega arith) in
      rw (next, step, there, h) (omega arith)

  module _ (last at : ℕ) (start : from ≤ at) (more : at + last < run_end letters from) (short : last < k_limit) where
    -- the next code is that of the k-mer at the position
    code_next : (code : ℕ)
        → code % 4 ^ last ≡ code_at last letters at → (4 * code + value (get_or letters (at + last) 0)) % 4 ^ suc last ≡ code_at (suc last) letters at
    unfolding is_foreign
    code_next code h =
        let within : run_end letters from ≤ length letters = (run_end_within letters from in_letters).1 in
        let digit : value (get_or letters (at + last) 0) < 4 =
        value_below (get_or letters (at + last) 0) (run_letters letters from (at + last) (omega arith) more) in
        rw (cut_digit last code (value (get_or letters (at + last) 0)) digit, h) (sym (code_at_suc letters last at (omega arith)))

    -- the code in hand is then that of the k-mer at the position, and the next one ends in it
    pub pushed : (code v code' : ℕ) → InHand last letters at code → v ≡ value (get_or letters (at + last) 0)
        → code' ≡ (4 * code + v) % 4 ^ suc last
        → (code' ≡ code_at (suc last) letters at) × (code_at (suc last) letters at < 4 ^ k_limit) × InHand last letters (at + 1) code'
    pushed code v code' is ev ec =
        let there : code' ≡ code_at (suc last) letters at =
        ec ∙ ap (λ (x : ℕ). (4 * code + x) % 4 ^ suc last) ev ∙ code_next code is.code_there in
        let small : code_at (suc last) letters at < 4 ^ k_limit = code_small at (suc last) start (omega arith) short in (
          there,
          small,
          record {
            code_there =
                rw (there, add-one at)
                (code_at_cut letters last at (omega (arith, run_end_within letters from in_letters))
                (λ q c d. run_letters letters from q (omega arith) (omega arith)));
            code_below = subst (λ (x : ℕ). x < 4 ^ k_limit) (sym there) small;
          },
        )

-- ---- the ranks in their slots

-- the rank of the code that is read is that of the k-mer
pub rank_there : (last at code r : ℕ) (letters : List ℕ) → r ≡ rank code → code ≡ code_at (suc last) letters at
    → r ≡ rank_at (suc last) letters at
unfolding rank_at
rank_there last at code r letters er ec = er ∙ ap rank ec

-- what is known of the ranks from a position on is known from a later one on
pub scanned_later : (last base : ℕ) (letters ranks : List ℕ) (first first' at code : ℕ)
    → Scanned last base letters ranks first at code → first ≤ first' → Scanned last base letters ranks first' at code
scanned_later last base letters ranks first first' at code is h = record {
  sized = is.sized;
  reaches = omega (arith, is.reaches);
  ranked = λ q a b. is.ranked q (omega arith) b;
  small = λ q a b. is.small q (omega arith) b;
  in_hand = is.in_hand;
}

module _ (last base : ℕ) (letters ranks : List ℕ) (first at code r code' : ℕ) (is : Scanned last base letters ranks first at code)
    (begins : base ≤ at + last)
    (ends : at + last < base + block_size) (ranked : r ≡ rank_at (suc last) letters at) (small : code_at (suc last) letters at < 4 ^ k_limit)
    (in_hand : InHand last letters (at + 1) code') where
  abbrev new : List ℕ
  new = set ranks (slot_of last base at) r

  -- one rank more
  pub scanned_next : Scanned last base letters (set ranks (slot_of last base at) r) first (at + 1) code'
  scanned_next = record {
    sized = length-set ranks (slot_of last base at) r ∙ is.sized;
    reaches = is.reaches;
    ranked = λ q c d. below_more (λ (x : ℕ). first ≤ x → get_or new (slot_of last base x) 0 ≡ rank_at (suc last) letters x) at old here q (omega arith) c;
    small = λ q c d.
        below_more (λ (x : ℕ). first ≤ x → code_at (suc last) letters x < 4 ^ k_limit) at (λ x l m. is.small x m l) (λ m. small) q (omega arith) c;
    in_hand = in_hand;
  }
    where
      old : (q : ℕ) → q < at → first ≤ q → get_or new (slot_of last base q) 0 ≡ rank_at (suc last) letters q
      old q d c =
          let other : slot_of last base q ≡ slot_of last base at → ⊥ = λ e. omega (arith, is.reaches) in
          get_or-set_other ranks (slot_of last base at) (slot_of last base q) r 0 other ∙ is.ranked q c d

      here : first ≤ at → get_or new (slot_of last base at) 0 ≡ rank_at (suc last) letters at
      here c = get_or-set_same ranks (slot_of last base at) r 0 (omega (arith, is.sized)) ∙ ranked
