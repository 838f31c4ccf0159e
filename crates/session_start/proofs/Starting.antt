-- From what start has noted to the task: the pattern's words in order have the pattern's counts, so the hits, their codes and back of each are
-- the task's.
use Prim.Native.Nat.{ℕ, suc, ◌+◌, ◌≤◌, ◌<◌}
use native.Mathlib.Omega.{arith}
use mathlib.Core.Path.{◌≡◌, refl, sym, ap, ap₂, ◌∙◌}
use mathlib.Core.List.{List, [], ◌∷◌, ◌++◌}
use lib.Dec.{ltb, leb}
use lib.ListN.{length, get_or, take, drop}
use lib.Seq.{ext_get_or, get_or-take, length-take-le, take_at}
use borrow.Author.Tests.{lt-ltb, le-ltb}
use Rattle.base.specs.Lists.{add_if}
use Rattle.base.specs.Counts.{occ}
use Rattle.base.specs.Replies.{accepted, refused}
use Rattle.sorting.specs.Sorting.{SortedCopyOf, LowerBound, sorted_words, sorted_into}
use Rattle.base.specs.Limits.{pattern_limit, hit_limit}
use Rattle.sorting.proofs.Sorting.{lower_bound_run, lower_bound_at, sorted_words_copy}
use Rattle.sorting.proofs.Room.{sort_exact}
use Rattle.mappings.specs.Score.{Task, interval}
use Rattle.mappings.specs.Cells.{hits_from, hits, hit_count}
use Rattle.mappings.specs.HitCodes.{hit_codes}
use Rattle.mappings.proofs.Hits.{hit_in_pattern}
use Rattle.mappings.proofs.HitCodes.{length_hit_codes, get_d_hit_codes}
use Rattle.session_start.specs.Tables.{back}
use Rattle.session_start.specs.Noting.{hit_reply, Noted, words_at, Begin, AllIn, backs}
use Rattle.session_start.proofs.Tables.{first_same, back_within}
use Rattle.session_start.proofs.Reaching.{length_backs, get_d_backs}
use Rattle.session_start.proofs.Linking.{length_words_at, get_d_words_at}

-- ---- lists with the same counts

module _ (p q : List ℕ) (same : (x : ℕ) → occ x q ≡ occ x p) where
  hits_same : (at : ℕ) (text : List ℕ) → hits_from q at text ≡ hits_from p at text
  hits_same at [] = refl
  hits_same at (x ∷ xs) = ap₂ (λ (n : ℕ) (l : List ℕ). add_if (ltb 0 n) at l) (same x) (hits_same (suc at) xs)

  back_same : (g : List ℕ) (j : ℕ) → back q g j ≡ back p g j
  unfolding back
  back_same g j =
      first_same (λ (i : ℕ). leb (occ (get_or g j 0) (interval g i j)) (occ (get_or g j 0) q))
      (λ (i : ℕ). leb (occ (get_or g j 0) (interval g i j)) (occ (get_or g j 0) p)) 0 (suc j)
      (λ i. ap (leb (occ (get_or g j 0) (interval g i j))) (same (get_or g j 0)))

  backs_same : (g : List ℕ) → backs q g ≡ backs p g
  backs_same g =
      ext_get_or 0 (backs q g) (backs p g) (length_backs q g ∙ sym (length_backs p g))
      (λ j l. (let h : j < length g = rw (length_backs q g) at l in get_d_backs q g j h ∙ back_same g j ∙ sym (get_d_backs p g j h)))

-- ---- the task

module _ (task : Task) (sorted index slots : List ℕ) (n : ℕ) (copy : SortedCopyOf task.pattern sorted)
    (noted : Noted task.text sorted index slots n) where
  hits_are : hits_from sorted 0 task.text ≡ hits task
  unfolding hits
  hits_are = hits_same task.pattern sorted copy.same_counts 0 task.text

  pub number_is : n ≡ hit_count task
  unfolding hit_count
  number_is = noted.number ∙ ap length hits_are

  module _ (room : n ≤ length index) (wide : n ≤ length slots) where
    pub index_are : take n index ≡ hits task
    unfolding hit_count
    index_are =
        ext_get_or 0 (take n index) (hits task) (length-take-le n index room ∙ number_is)
        (λ k l.
        let h : k < n = rw (length-take-le n index room) at l in
        get_or-take n index k 0 h ∙ noted.indices k h (omega arith) ∙ ap (λ (x : List ℕ). get_or x k 0) hits_are)

    slots_long : length (take n slots) ≡ n
    slots_long = length-take-le n slots wide

    -- the code of hit k, and its slot
    abbrev code : ℕ → ℕ
    code k = get_or task.text (get_or (hits task) k 0) 0

    code_in : (k : ℕ) → k < n → 1 ≤ occ (code k) sorted
    code_in k h = rw (copy.same_counts (code k)) (hit_in_pattern task k (rw number_is at h))

    lower_at : (k : ℕ) → k < n → LowerBound sorted (code k) (get_or (take n slots) k 0)
    lower_at k h = rw (get_or-take n slots k 0 h) (rw hits_are at (noted.lower k h (omega arith)))

    word_at : (k : ℕ) → k < n → get_or sorted (get_or (take n slots) k 0) 0 ≡ code k
    word_at k h =
        let none : get_or (take n slots) k 0 ≡ get_or (take n slots) k 0 + 0 = omega arith in
        ap (λ (s : ℕ). get_or sorted s 0) none ∙ lower_bound_at sorted copy.in_order (code k) (get_or (take n slots) k 0) (lower_at k h) 0 (code_in k h)

    pub slots_begin : Begin sorted (take n slots)
    slots_begin = record {
      in_order = copy.in_order;
      within = λ k l.
          let h : k < n = rw slots_long at l in
          omega (arith, code_in k h, (lower_bound_run sorted copy.in_order (code k) (get_or (take n slots) k 0) (lower_at k h)).within);
      lower = λ k l. (let h : k < n = rw slots_long at l in rw (word_at k h) (lower_at k h));
    }

    codes_are : words_at sorted (take n slots) ≡ hit_codes task
    codes_are =
        ext_get_or 0 (words_at sorted (take n slots)) (hit_codes task)
        (length_words_at sorted (take n slots) ∙ slots_long ∙ number_is ∙ sym (length_hit_codes task))
        (λ k l.
        let m : k < length (take n slots) = rw (length_words_at sorted (take n slots)) at l in
        let h : k < n = rw slots_long at m in
        get_d_words_at sorted (take n slots) k m ∙ word_at k h ∙ sym (get_d_hit_codes task k (rw number_is at h)))

    pub backs_are : backs sorted (words_at sorted (take n slots)) ≡ backs task.pattern (hit_codes task)
    backs_are = ap (backs sorted) codes_are ∙ backs_same task.pattern sorted copy.same_counts (hit_codes task)

-- back of a hit is at most its number
pub backs_within : (p g : List ℕ) → AllIn p g → (k : ℕ) → k < length (backs p g) → get_or (backs p g) k 0 ≤ k
backs_within p g all k l = let h : k < length g = rw (length_backs p g) at l in rw (get_d_backs p g k h) (back_within p g all k h)

-- ---- what start answers of the number of hits

pub reply_hits : (task : Task) (n : ℕ) → n ≡ hit_count task → n ≤ hit_limit → accepted (n ∷ []) ≡ hit_reply task
unfolding hit_reply
reply_hits task n e l = rw (← e, le-ltb hit_limit n l)

pub reply_many : (task : Task) (n : ℕ) → n ≡ hit_count task → hit_limit < n → refused 11 (n ∷ []) ≡ hit_reply task
unfolding hit_reply
reply_many task n e l = rw (← e, lt-ltb hit_limit n l)

-- a sort into just enough room at the start of an array leaves a copy in order there
pub sorted_front : (words zeros new : List ℕ) → new ≡ sorted_into words (take (length words) zeros) → length words ≤ pattern_limit
    → length words ≤ length zeros
    → SortedCopyOf words (take (length words) (new ++ drop (length words) zeros))
sorted_front words zeros new e few room =
    let copy = sorted_words_copy words in
    let is : new ≡ sorted_words words = e ∙ sort_exact words (take (length words) zeros) few (length-take-le (length words) zeros room) in
    let front : take (length words) (new ++ drop (length words) zeros) ≡ sorted_words words =
    take_at new (drop (length words) zeros) (length words) (ap length is ∙ copy.same_length) ∙ is in
    rw front copy
