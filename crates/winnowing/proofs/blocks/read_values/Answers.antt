-- `blocks::read_values` meets its contract: each letter has its value in the block, and where the letters end in it, what is put behind them
-- is the value of what stands past their end.
use Prim.Native.Nat.{ℕ, ◌+◌, ◌-◌, ◌≤◌, ◌<◌}
use native.Mathlib.Nat.{ne_of_lt}
use native.Mathlib.Omega.{arith}
use mathlib.Core.Path.{◌≡◌, sym, ap, ◌∙◌, subst}
use mathlib.Core.List.{List}
use lib.ListN.{length, get_or, set, length-set, get_or-eq_default}
use lib.Seq.{get_or-set_same, get_or-set_other}
use borrow.Author.Count.{below_more}
use Rattle.kmers.specs.Letters.{value, foreign}
use Rattle.winnowing.proofs.blocks.read_values.Goals as goal

known_below : (letters values : List ℕ) (base n : ℕ) → ((x : ℕ) → x < n → get_or values x 0 ≡ value (get_or letters (base + x) 0))
    → (at : ℕ) → base ≤ at → at < base + n → get_or values (at - base) 0 ≡ value (get_or letters at 0)
known_below letters values base n below at from to =
    let back : base + (at - base) ≡ at = omega arith in
    subst (λ (y : ℕ). get_or values (at - base) 0 ≡ value (get_or letters y 0)) back (below (at - base) (omega arith))

-- what stands past the end of the letters counts as byte 0, which is none of the eight
past_end : (letters : List ℕ) (at : ℕ) → length letters ≤ at → foreign ≡ value (get_or letters at 0)
unfolding value
past_end letters at h = sym (ap value (get_or-eq_default letters 0 h))

-- a block that is known up to the end of the letters is known there too when `foreign` is put
known_to_end : (letters old : List ℕ) (base to : ℕ) → to < length old → length letters ≡ base + to
    → ((x : ℕ) → x < to → get_or old x 0 ≡ value (get_or letters (base + x) 0))
    → (x : ℕ) → x < to + 1 → get_or (set old to foreign) x 0 ≡ value (get_or letters (base + x) 0)
known_to_end letters old base to room end below =
    below_more (λ (x : ℕ). get_or (set old to foreign) x 0 ≡ value (get_or letters (base + x) 0)) to
    (λ x h. get_or-set_other old to x foreign 0 (ne_of_lt h) ∙ below x h)
    (get_or-set_same old to foreign 0 room ∙ past_end letters (base + to) (omega arith))

pub returns-then-to-lt-BLOCK : goal.returns-then-to-lt-BLOCK
returns-then-to-lt-BLOCK c =
    let letters = c.args.letters.now in
    let to = c.min-to.result in
    let old = c.loop-i.values in
    let sized = c.fits-values in
    let room : to < length old = omega (arith, c.if-to-lt-BLOCK.true) in
    let end : length letters ≡ c.args.base + to = omega (arith, c.min-to.ensures, c.if-to-lt-BLOCK.true, c.requires) in
    let all = known_to_end letters old c.args.base to room end (λ x h. c.loop-i.invariant x (omega arith)) in
    record {
      sized = length-set old to foreign ∙ omega arith;
      known = λ q from below within. known_below letters (set old to foreign) c.args.base (to + 1) all q from (omega arith);
    }

pub returns-else-to-lt-BLOCK : goal.returns-else-to-lt-BLOCK
returns-else-to-lt-BLOCK c = record {
  sized = omega arith;
  known = λ q from below within.
      known_below c.args.letters.now c.loop-i.values c.args.base c.loop-i.i c.loop-i.invariant q from (omega (arith, c.if-to-lt-BLOCK.false));
}
