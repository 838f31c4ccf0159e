-- Words put back into the middle of others: those, and no other word, change.
use Prim.Native.Nat.{ℕ, ◌+◌, ◌-◌, ◌≤◌, ◌<◌}
use native.Mathlib.Omega.{arith}
use mathlib.Core.Path.{◌≡◌, sym, ap, ◌∙◌}
use mathlib.Core.Logic.{inl, inr}
use mathlib.Core.List.{List, ◌++◌}
use lib.ListN.{length, get_or, take, drop, length-drop, get_or-append}
use lib.Seq.{length-take-le, get_or-take, get_or-drop, get_or-append-add}
use borrow.Rule.Slice.PartMut.{same_len_mid}
use Rattle.session_start.proofs.WorkWords.{Outside}
use Rattle.mapper.specs.Walking.{middle, with_middle}

module _ (from n : ℕ) (work words : List ℕ) (fits : from + n ≤ length work) where
  pub middle_number : length (middle from n work) ≡ n
  unfolding middle
  middle_number = length-take-le n (drop from work) (let k = length-drop from work in omega arith)

  pub middle_word : (k : ℕ) → k < n → get_or (middle from n work) k 0 ≡ get_or work (from + k) 0
  unfolding middle
  middle_word k l = get_or-take n (drop from work) k 0 l ∙ get_or-drop from work k 0

  number_before : length (take from work) ≡ from
  number_before = length-take-le from work (omega arith)

  module _ (size : length words ≡ n) where
    pub same_number : length (with_middle from n work words) ≡ length work
    unfolding with_middle middle
    same_number = same_len_mid from n work words (size ∙ sym middle_number)

    from_middle : (k : ℕ) → get_or (with_middle from n work words) (from + k) 0 ≡ get_or (words ++ drop n (drop from work)) k 0
    unfolding with_middle
    from_middle k =
        ap (λ (i : ℕ). get_or (take from work ++ (words ++ drop n (drop from work))) (i + k) 0) (sym number_before)
        ∙ get_or-append-add (take from work) (words ++ drop n (drop from work)) k 0

    pub inner_word : (k : ℕ) → k < n → get_or (with_middle from n work words) (from + k) 0 ≡ get_or words k 0
    inner_word k l = from_middle k ∙ get_or-append words (drop n (drop from work)) 0 k (rw size l)

    pub outer_word : (k : ℕ) → Outside from n k → get_or (with_middle from n work words) k 0 ≡ get_or work k 0
    unfolding with_middle
    outer_word k (inl l) =
        get_or-append (take from work) (words ++ drop n (drop from work)) 0 k (rw number_before l) ∙ get_or-take from work k 0 l
    outer_word k (inr l) =
        let e : k ≡ from + (n + (k - (from + n))) = omega arith in
        ap (λ (x : ℕ). get_or (with_middle from n work words) x 0) e
        ∙ from_middle (n + (k - (from + n)))
        ∙ ap (λ (x : ℕ). get_or (words ++ drop n (drop from work)) (x + (k - (from + n))) 0) (sym size)
        ∙ get_or-append-add words (drop n (drop from work)) (k - (from + n)) 0
        ∙ get_or-drop n (drop from work) (k - (from + n)) 0
        ∙ get_or-drop from work (n + (k - (from + n))) 0
        ∙ ap (λ (x : ℕ). get_or work x 0) (sym e)
