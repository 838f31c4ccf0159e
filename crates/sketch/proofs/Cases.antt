-- The refusals of sketch and count, with their limits and their order: each is computed.
use Prim.Native.Nat.{ℕ, ◌≤◌, ◌<◌}
use mathlib.Core.Path.{◌≡◌, refl}
use mathlib.Core.List.{List, [], ◌∷◌}
use lib.ListN.{length}
use lib.IntN.{pos, negsuc}
use borrow.Author.Tests.{lt-ltb, le-ltb}
use Rattle.base.specs.Replies.{accepted, refused}
use Rattle.minimizers.specs.Sketch.{sketch}
use Rattle.sketch.specs.Replies.{sketch_reply, count_reply, host_number}
use Rattle.sketch.proofs.Compute.{sketch_computes}

-- each refused call also breaks what is checked after it
pub record SketchRefusals : Type 0 where
  -- 1: k outside 1–15
  pub k_low : (letters : List ℕ) → sketch_reply 0 65 letters 0 0 ≡ refused 1 []
  pub k_high : (letters : List ℕ) → sketch_reply 16 0 letters 0 0 ≡ refused 1 []
  -- 2: w outside 1–64
  pub w_low : (letters : List ℕ) → sketch_reply 1 0 letters 0 0 ≡ refused 2 []
  pub w_high : (letters : List ℕ) → sketch_reply 15 65 letters 0 0 ≡ refused 2 []
  -- 3: more than 1,048,576 letters
  pub many : (letters : List ℕ) → 1048576 < length letters → sketch_reply 15 64 letters 0 0 ≡ refused 3 []
  -- 4, with the entries needed: each of the two buffers must hold all of them
  pub codes_short : sketch_reply 1 1 (65 ∷ 67 ∷ []) 1 2 ≡ refused 4 (2 ∷ [])
  pub positions_short : sketch_reply 1 1 (65 ∷ 67 ∷ []) 2 1 ≡ refused 4 (2 ∷ [])
  -- accepted: room that is just enough; the highest k and w with no letters
  pub enough : sketch_reply 1 1 (65 ∷ 67 ∷ []) 2 2 ≡ accepted (2 ∷ [])
  pub highest : sketch_reply 15 64 [] 0 0 ≡ accepted (0 ∷ [])

pub sketch_refusals : SketchRefusals
unfolding sketch_computes
sketch_refusals =
    record {
      k_low = λ letters. refl;
      k_high = λ letters. refl;
      w_low = λ letters. refl;
      w_high = λ letters. refl;
      many = λ letters over. rw (lt-ltb 1048576 (length letters) over) refl;
      codes_short = refl;
      positions_short = refl;
      enough = refl;
      highest = refl;
    }

-- count as the host program sees it: 1, 2 and 3 negated, or the number of entries, as up to 1,048,576 letters have it
pub record CountCases : Type 0 where
  pub k_high : (letters : List ℕ) → host_number (count_reply 16 65 letters) ≡ negsuc 0
  pub w_high : (letters : List ℕ) → host_number (count_reply 15 65 letters) ≡ negsuc 1
  pub many : (letters : List ℕ) → 1048576 < length letters → host_number (count_reply 15 64 letters) ≡ negsuc 2
  pub most : (letters : List ℕ) → length letters ≤ 1048576 → count_reply 1 1 letters ≡ accepted (length (sketch 1 1 letters) ∷ [])
  -- CNA, w 2, and no letters
  pub case3 : host_number (count_reply 1 2 (67 ∷ 78 ∷ 65 ∷ [])) ≡ pos 2
  pub none : host_number (count_reply 1 1 []) ≡ pos 0

pub count_cases : CountCases
unfolding sketch_computes
count_cases =
    record {
      k_high = λ letters. refl;
      w_high = λ letters. refl;
      many = λ letters over. rw (lt-ltb 1048576 (length letters) over) refl;
      most = λ letters within. rw (le-ltb 1048576 (length letters) within) refl;
      case3 = refl;
      none = refl;
    }
