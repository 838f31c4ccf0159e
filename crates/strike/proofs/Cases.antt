-- Examples of striking, each computed: they tell the definition from likely mistakes. Then the refusals of the calls, with their limits
-- and their order.
use Prim.Native.Nat.{ℕ, ◌≤◌, ◌<◌}
use mathlib.Core.Path.{◌≡◌, refl}
use mathlib.Core.Logic.{◌≢◌}
use mathlib.Core.List.{List, [], ◌∷◌}
use lib.ListN.{length}
use borrow.Author.Tests.{lt-ltb, le-ltb, eq-eqb, ne_eqb}
use Rattle.base.specs.Replies.{accepted, refused}
use Rattle.kmers.specs.Kmers.{positions, entries}
use Rattle.strike.specs.Strike.{strike, struck, strike_reply, strike_codes, strike_positions}
use Rattle.strike.proofs.Compute.{strike_computes}

-- a text in which 7 occurs three times
abbrev text : List ℕ
text = 7 ∷ 5 ∷ 7 ∷ 9 ∷ 7 ∷ []

pub record StrikeCases : Type 0 where
  -- a text by its own counts: limit 2 drops 7, and limit 3 keeps it
  pub drops : positions (struck 2 (entries text (0 ∷ 1 ∷ 4 ∷ 6 ∷ 8 ∷ []))) ≡ 1 ∷ 6 ∷ []
  pub keeps : positions (struck 3 (entries text (0 ∷ 1 ∷ 4 ∷ 6 ∷ 8 ∷ []))) ≡ 0 ∷ 1 ∷ 4 ∷ 6 ∷ 8 ∷ []
  -- a read by the text's counts: 7 leaves it though the read has it once; 3, which the read has three times and the text not at all, stays
  pub drops_of_read : positions (strike text 2 (entries (3 ∷ 7 ∷ 3 ∷ 9 ∷ 3 ∷ []) (0 ∷ 2 ∷ 3 ∷ 5 ∷ 6 ∷ []))) ≡ 0 ∷ 3 ∷ 5 ∷ 6 ∷ []
  -- with a limit one higher it stays
  pub keeps_of_read : positions (strike text 3 (entries (3 ∷ 7 ∷ 3 ∷ 9 ∷ 3 ∷ []) (0 ∷ 2 ∷ 3 ∷ 5 ∷ 6 ∷ [])))
      ≡ 0 ∷ 2 ∷ 3 ∷ 5 ∷ 6 ∷ []
  -- words past the last one written keep their content
  pub answers : strike_reply text (7 ∷ 5 ∷ 7 ∷ []) (0 ∷ 1 ∷ 4 ∷ []) 2 2 2 ≡ accepted (1 ∷ [])
  pub writes : strike_codes text (7 ∷ 5 ∷ 7 ∷ []) (0 ∷ 1 ∷ 4 ∷ []) 2 (80 ∷ 81 ∷ []) (90 ∷ 91 ∷ []) ≡ 5 ∷ 81 ∷ []
  pub writes_positions : strike_positions text (7 ∷ 5 ∷ 7 ∷ []) (0 ∷ 1 ∷ 4 ∷ []) 2 (80 ∷ 81 ∷ []) (90 ∷ 91 ∷ []) ≡ 1 ∷ 91 ∷ []
  -- a refusal names the entries needed and changes nothing
  pub refuses : strike_reply text (7 ∷ 5 ∷ 7 ∷ []) (0 ∷ 1 ∷ 4 ∷ []) 3 3 2 ≡ refused 4 (3 ∷ [])
  pub leaves : strike_positions text (7 ∷ 5 ∷ 7 ∷ []) (0 ∷ 1 ∷ 4 ∷ []) 3 (80 ∷ 81 ∷ 82 ∷ []) (90 ∷ 91 ∷ []) ≡ 90 ∷ 91 ∷ []
  -- a read of which nothing remains
  pub emptied : strike_reply text (7 ∷ 7 ∷ []) (0 ∷ 1 ∷ []) 2 0 0 ≡ accepted (0 ∷ [])

pub strike_cases : StrikeCases
unfolding strike_computes
strike_cases =
    record {
      drops = refl;
      keeps = refl;
      drops_of_read = refl;
      keeps_of_read = refl;
      answers = refl;
      writes = refl;
      writes_positions = refl;
      refuses = refl;
      leaves = refl;
      emptied = refl;
    }

-- each refused call also breaks what is checked after it
pub record StrikeRefusals : Type 0 where
  -- 5: codes and positions differ in number, however many decide
  pub unpaired : (deciding cs ps : List ℕ) → length cs ≢ length ps → strike_reply deciding cs ps 0 0 0 ≡ refused 5 []
  -- 8: over 65,535 decide, and before 6
  pub long : (deciding cs ps : List ℕ) → length cs ≡ length ps → 65535 < length deciding → strike_reply deciding cs ps 0 0 0 ≡ refused 8 []
  -- 6: c outside 1–65,535, and before 4; the codes to strike may be as many as they like
  pub limit_low : (deciding cs ps : List ℕ) → length cs ≡ length ps → length deciding ≤ 65535 → strike_reply deciding cs ps 0 0 0 ≡ refused 6 []
  pub limit_high : strike_reply (7 ∷ []) (7 ∷ []) (0 ∷ []) 65536 0 0 ≡ refused 6 []
  -- 4, with the entries needed: each of the two buffers must hold all of them
  pub codes_short : strike_reply (7 ∷ []) (7 ∷ []) (0 ∷ []) 65535 0 1 ≡ refused 4 (1 ∷ [])
  pub positions_short : strike_reply (7 ∷ []) (7 ∷ []) (0 ∷ []) 1 1 0 ≡ refused 4 (1 ∷ [])
  -- accepted: the highest c; no entries; no text
  pub highest : strike_reply (7 ∷ []) (7 ∷ []) (0 ∷ []) 65535 1 1 ≡ accepted (1 ∷ [])
  pub none : strike_reply (7 ∷ []) [] [] 1 0 0 ≡ accepted (0 ∷ [])
  pub no_text : strike_reply [] (7 ∷ 7 ∷ []) (0 ∷ 1 ∷ []) 1 2 2 ≡ accepted (2 ∷ [])

pub strike_refusals : StrikeRefusals
unfolding strike_computes
strike_refusals =
    record {
      unpaired = λ deciding cs ps differ. rw (ne_eqb (length cs) (length ps) differ) refl;
      long = λ deciding cs ps same over. rw (eq-eqb (length cs) (length ps) same) (rw (lt-ltb 65535 (length deciding) over) refl);
      limit_low = λ deciding cs ps same within. rw (eq-eqb (length cs) (length ps) same) (rw (le-ltb 65535 (length deciding) within) refl);
      limit_high = refl;
      codes_short = refl;
      positions_short = refl;
      highest = refl;
      none = refl;
      no_text = refl;
    }
