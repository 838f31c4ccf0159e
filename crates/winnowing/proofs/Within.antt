-- The limits of winnowing: a call that is not beyond them writes the sketch, as far as there is room.
use Prim.Native.Nat.{ℕ, ◌≤◌}
use mathlib.Core.Path.{◌≡◌}
use mathlib.Core.Bool.{false, ◌||◌}
use mathlib.Core.List.{List}
use lib.Dec.{ltb}
use lib.ListN.{length}
use borrow.Author.Tests.{ltb-false, le-ltb}
use Rattle.base.proofs.Lists.{or_neither}
use Rattle.base.specs.Limits.{k_limit, w_limit, letter_limit, outside}
use Rattle.base.proofs.Ranges.{inside_range}
use Rattle.minimizers.specs.Sketch.{sketch}
use Rattle.winnowing.specs.Winnowed.{written, is_beyond, winnowed}
use Rattle.winnowing.specs.Scan.{HasRoom}

-- what the checks of k, w and the letters leave
pub within_limits : (k w letters : ℕ) → outside 1 k_limit k ≡ false → outside 1 w_limit w ≡ false → letters ≤ letter_limit
    → (1 ≤ k) × (k ≤ k_limit) × (1 ≤ w) × (w ≤ w_limit) × (letters ≤ letter_limit)
within_limits k w letters h i l =
    let for_k = inside_range 1 k_limit k h in
    let for_w = inside_range 1 w_limit w i in
    (for_k.0, for_k.1, for_w.0, for_w.1, l)

-- what is left where nothing is beyond its limit
pub not_beyond : (k w letters : ℕ) (cs ps : List ℕ) (room : ℕ) → is_beyond k w letters (length cs) (length ps) room ≡ false
    → ((1 ≤ k) × (k ≤ k_limit) × (1 ≤ w) × (w ≤ w_limit) × (letters ≤ letter_limit)) × HasRoom room cs ps
unfolding is_beyond
not_beyond k w letters cs ps room h =
    let past_positions = or_neither (outside 1 k_limit k || outside 1 w_limit w || ltb letter_limit letters || ltb (length cs) room) (ltb (length ps) room) h in
    let past_codes = or_neither (outside 1 k_limit k || outside 1 w_limit w || ltb letter_limit letters) (ltb (length cs) room) past_positions.0 in
    let past_letters = or_neither (outside 1 k_limit k || outside 1 w_limit w) (ltb letter_limit letters) past_codes.0 in
    let past_k_w = or_neither (outside 1 k_limit k) (outside 1 w_limit w) past_letters.0 in (
      within_limits k w letters past_k_w.0 past_k_w.1 (ltb-false letter_limit letters past_letters.1),
      record { for_codes = ltb-false (length cs) room past_codes.1; for_positions = ltb-false (length ps) room past_positions.1 },
    )

-- within the limits it is the sketch that is written
pub winnowed_within : (k w : ℕ) (letters : List ℕ) (room : ℕ) (cs ps : List ℕ)
    → (1 ≤ k) × (k ≤ k_limit) × (1 ≤ w) × (w ≤ w_limit) × (length letters ≤ letter_limit) → room ≤ length cs → room ≤ length ps
    → winnowed k w letters room cs ps ≡ written room 0 cs ps (sketch k w letters)
unfolding winnowed is_beyond
winnowed_within k w letters room cs ps h hc hp =
    rw (
      le-ltb k 1 h.0,
      le-ltb k_limit k h.1,
      le-ltb w 1 h.2,
      le-ltb w_limit w h.3,
      le-ltb letter_limit (length letters) h.4,
      le-ltb (length cs) room hc,
      le-ltb (length ps) room hp,
    )
