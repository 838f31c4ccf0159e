-- Linking the hits by their slots: what the loop over the hits asks and keeps, with the words at the slots as the hits' codes.
use Prim.Native.Nat.{ℕ, zero, suc, ◌+◌, ◌*◌, ◌<◌}
use native.Mathlib.Numerals.{add-one}
use native.Mathlib.Nat.{not-suc-le-zero, le_of_suc-le-suc}
use mathlib.Core.Path.{◌≡◌, refl, sym, ap, ◌∙◌}
use mathlib.Core.List.{List, [], ◌∷◌}
use lib.ListN.{length, get_or, take, set, length-map}
use Rattle.sorting.specs.Sorting.{LowerBound}
use Rattle.base.specs.Zeros.{copies, zeros}
use Rattle.base.proofs.Counts.{occ_mem}
use Rattle.mappings.proofs.Rising.{get_d_mem}
use Rattle.session_start.specs.Noting.{one_at, words_at, Begin, AllIn, backs}
use Rattle.session_start.proofs.Reaching.{get_d_backs}
use Rattle.session_start.proofs.Ring.{Ring, ring_back, ring_more, place_within}

pub length_words_at : (sorted slots : List ℕ) → length (words_at sorted slots) ≡ length slots
length_words_at sorted slots = length-map slots (λ (s : ℕ). get_or sorted s 0)

pub get_d_words_at : (sorted slots : List ℕ) (k : ℕ) → k < length slots → get_or (words_at sorted slots) k 0 ≡ get_or sorted (get_or slots k 0) 0
get_d_words_at sorted [] k h = absurd (not-suc-le-zero h)
get_d_words_at sorted (s ∷ slots) zero h = refl
get_d_words_at sorted (s ∷ slots) (suc k) h = get_d_words_at sorted slots k (le_of_suc-le-suc h)

-- the words at slots are among the words
pub words_in : (sorted slots : List ℕ) → Begin sorted slots → AllIn sorted (words_at sorted slots)
words_in sorted slots begin k h =
    let l : k < length slots = rw (length_words_at sorted slots) at h in
    rw (get_d_words_at sorted slots k l) (occ_mem (get_or sorted (get_or slots k 0) 0) sorted (get_d_mem 0 sorted (get_or slots k 0) (begin.within k l)))

-- words of a part of zeros
pub zero_words : (n m k : ℕ) → get_or (take n (zeros m)) k 0 ≡ 0
unfolding copies
zero_words zero m k = refl
zero_words (suc n) zero k = refl
zero_words (suc n) (suc m) zero = refl
zero_words (suc n) (suc m) (suc k) = zero_words n m k

module _ (sorted slots : List ℕ) (begin : Begin sorted slots) (turns ring : List ℕ) (j slot turn : ℕ)
    (now : Ring sorted (words_at sorted slots) turns ring j)
    (h : j < length slots) (e : slot ≡ get_or slots j 0) (f : turn ≡ get_or turns slot 0) where
  abbrev codes : List ℕ
  codes = words_at sorted slots

  within : j < length codes
  within = rw (length_words_at sorted slots) h

  code_is : get_or codes j 0 ≡ get_or sorted slot 0
  code_is = get_d_words_at sorted slots j h ∙ ap (λ (s : ℕ). get_or sorted s 0) (sym e)

  lower : LowerBound sorted (get_or codes j 0) slot
  lower = rw (code_is, e) (begin.lower j h)

  pub place_in : slot + turn < length sorted
  place_in = rw f (place_within sorted codes begin.in_order (words_in sorted slots begin) turns ring j slot now within lower)

  pub finds_back : get_or ring (slot + turn) 0 ≡ get_or (backs sorted codes) j 0
  finds_back =
      rw f (ring_back sorted codes begin.in_order (words_in sorted slots begin) turns ring j slot now within lower)
      ∙ sym (get_d_backs sorted codes j within)

  pub links_more : (one : ℕ) → one ≡ one_at sorted (slot + turn + 1) (get_or sorted slot 0) → length turns ≡ length sorted
      → length ring ≡ length sorted
      → Ring sorted codes (set turns slot ((get_or turns slot 0 + 1) * one)) (set ring (slot + turn) (j + 1)) (j + 1)
  links_more one o p q =
      rw (add-one j, o, f, ← code_is) (ring_more sorted codes begin.in_order (words_in sorted slots begin) turns ring j slot now within lower p q)
