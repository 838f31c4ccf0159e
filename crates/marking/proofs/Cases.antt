-- Examples of marking, each computed: they tell the definition from one that takes the limit itself for too often, and from one that
-- counts the words that it marks.
use Prim.Native.Nat.{ℕ, ◌≤◌, ◌<◌}
use mathlib.Core.Path.{◌≡◌, refl}
use mathlib.Core.Bool.{true, false}
use mathlib.Core.List.{List, [], ◌∷◌}
use lib.ListN.{length}
use borrow.Author.Tests.{le-leb, lt-leb}
use Rattle.marking.specs.Marks.{marks_of, markable, marked}

pub record MarkCases : Type 0 where
  -- 7 decides three times: limit 2 is exceeded, and limit 3 is not
  pub often : marks_of (7 ∷ 5 ∷ 7 ∷ 9 ∷ 7 ∷ []) 2 (9 ∷ 7 ∷ 5 ∷ 7 ∷ []) ≡ 1 ∷ 0 ∷ 1 ∷ 0 ∷ []
  pub at_limit : marks_of (7 ∷ 5 ∷ 7 ∷ 9 ∷ 7 ∷ []) 3 (9 ∷ 7 ∷ 5 ∷ 7 ∷ []) ≡ 1 ∷ 1 ∷ 1 ∷ 1 ∷ []
  -- a word that does not decide is rare, however often it is marked
  pub absent : marks_of (7 ∷ 7 ∷ []) 1 (5 ∷ 5 ∷ 5 ∷ []) ≡ 1 ∷ 1 ∷ 1 ∷ []
  -- how often it decides counts, and not how often it is marked
  pub deciding : marks_of (7 ∷ 5 ∷ 5 ∷ []) 1 (7 ∷ 7 ∷ 5 ∷ []) ≡ 1 ∷ 1 ∷ 0 ∷ []
  -- with limit 0 only words that do not decide are rare
  pub none_allowed : marks_of (7 ∷ []) 0 (7 ∷ 5 ∷ []) ≡ 0 ∷ 1 ∷ []
  -- marks past the last word keep their content
  pub enough : markable (7 ∷ 7 ∷ []) (7 ∷ 5 ∷ []) (8 ∷ 8 ∷ 8 ∷ []) ≡ true
  pub writes : marked (7 ∷ 7 ∷ []) 1 (7 ∷ 5 ∷ []) (8 ∷ 8 ∷ 8 ∷ []) ≡ 0 ∷ 1 ∷ 8 ∷ []
  -- with a mark too few nothing is changed
  pub short : markable (7 ∷ 7 ∷ []) (7 ∷ 5 ∷ []) (8 ∷ []) ≡ false
  pub leaves : marked (7 ∷ 7 ∷ []) 1 (7 ∷ 5 ∷ []) (8 ∷ []) ≡ 8 ∷ []
  -- 65,535 words may decide, and no more
  pub most : (deciding : List ℕ) → length deciding ≤ 65535 → markable deciding [] [] ≡ true
  pub many : (deciding : List ℕ) → 65535 < length deciding → markable deciding [] [] ≡ false

pub mark_cases : MarkCases
unfolding markable marked
mark_cases =
    record {
      often = refl;
      at_limit = refl;
      absent = refl;
      deciding = refl;
      none_allowed = refl;
      enough = refl;
      writes = refl;
      short = refl;
      leaves = refl;
      most = λ deciding h. rw (le-leb (length deciding) 65535 h);
      many = λ deciding h. rw (lt-leb (length deciding) 65535 h);
    }
