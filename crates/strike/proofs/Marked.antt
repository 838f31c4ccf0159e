-- Laws of marked words: what the loops that count and copy them keep, and that the words marked as rare are those of the
-- entries kept.
use Prim.Native.Nat.{ℕ, zero, suc, ◌+◌, ◌≤◌, ◌<◌, zero-le}
use native.Mathlib.Nat.{le_refl}
use native.Mathlib.Omega.{arith}
use native.Mathlib.Numerals.{add-one}
use mathlib.Core.Path.{◌≡◌, refl, sym, ap, ap₂, ◌∙◌}
use mathlib.Core.Logic.{◌⊎◌, inl, inr, ◌≢◌}
use mathlib.Core.Bool.{Bool, true, false}
use mathlib.Core.List.{List, [], ◌∷◌, ◌++◌, map, append-nil}
use lib.Dec.{eqb, leb}
use lib.ListN.{length, get_or, set, take, drop, length-set, take-append-drop, drop_of_length-le}
use lib.Seq.{drop-cons, take-suc-set, take-set-le, drop-set-lt, length-take-le, take-append_seam, drop-append_seam, take_at, drop_at}
use borrow.Author.Tests.{eq-eqb, ne_eqb, leb-true, leb-false}
use Rattle.base.specs.Lists.{bit, add_if, keep, sum}
use Rattle.base.specs.Counts.{occ}
use Rattle.base.specs.Replies.{over}
use Rattle.marking.specs.Marks.{marks_of}
use Rattle.base.proofs.Lists.{eq_or_ne, bit_le_one}
use Rattle.kmers.specs.Kmers.{Entry, codes, positions, entries}
use Rattle.strike.specs.Strike.{strike}
use Rattle.strike.specs.Marked.{marked_words}

-- ---- counting

-- the sum from an index on, one word further
pub sum_drop : (l : List ℕ) (i : ℕ) → i < length l → sum (drop i l) ≡ get_or l i 0 + sum (drop (suc i) l)
sum_drop l i h = ap sum (drop-cons l i 0 h)

-- where something is left to count, an index is left
sum_left : (l : List ℕ) (i : ℕ) → 0 < sum (drop i l) → i < length l
sum_left l i h = go (leb (length l) i) refl
  where
    go : (b : Bool) → leb (length l) i ≡ b → i < length l
    go false e = leb-false (length l) i e
    go true e =
        let n : sum (drop i l) ≡ 0 = ap sum (drop_of_length-le l (leb-true (length l) i e)) in
        absurd (omega arith)

-- ---- copying

-- the marked words of the first i and of the rest
marked_parts : (i : ℕ) (marks words : List ℕ)
    → marked_words marks words ≡ marked_words (take i marks) (take i words) ++ marked_words (drop i marks) (drop i words)
marked_parts zero marks words = refl
marked_parts (suc i) [] words = refl
marked_parts (suc i) (m ∷ marks) [] = go (drop i marks)
  where
    go : (l : List ℕ) → [] ≡ marked_words l []
    go [] = refl
    go (x ∷ xs) = refl
marked_parts (suc i) (m ∷ marks) (w ∷ words) =
    ap (add_if (eqb m 1) w) (marked_parts i marks words)
    ∙ add (eqb m 1) (marked_words (take i marks) (take i words)) (marked_words (drop i marks) (drop i words))
  where
    add : (b : Bool) (l r : List ℕ) → add_if b w (l ++ r) ≡ add_if b w l ++ r
    add true l r = refl
    add false l r = refl

pub marked_append : (marks others words rest : List ℕ) → length marks ≡ length words
    → marked_words (marks ++ others) (words ++ rest) ≡ marked_words marks words ++ marked_words others rest
marked_append marks others words rest h =
    marked_parts (length marks) (marks ++ others) (words ++ rest)
    ∙ ap₂ (λ (a b : List ℕ). a ++ b)
    (ap₂ marked_words (take-append_seam marks others) (take_at words rest (length marks) (sym h)))
    (ap₂ marked_words (drop-append_seam marks others) (drop_at words rest (length marks) (sym h)))

-- where every mark left is 0, no word is left
marked_none : (marks words : List ℕ) → sum marks ≡ 0 → marked_words marks words ≡ []
marked_none [] words h = refl
marked_none (m ∷ marks) [] h = refl
marked_none (m ∷ marks) (w ∷ words) h =
    let z : m ≡ 0 = omega arith in
    rw z (marked_none marks words (omega arith))

-- one index further: the word where its mark is 1
marked_suc : (marks words : List ℕ) (i : ℕ) → i < length marks → length words ≡ length marks
    → marked_words (take (suc i) marks) (take (suc i) words)
    ≡ marked_words (take i marks) (take i words) ++ add_if (eqb (get_or marks i 0) 1) (get_or words i 0) []
marked_suc [] words i h l = absurd (omega arith)
marked_suc (m ∷ marks) [] i h l = absurd (omega arith)
marked_suc (m ∷ marks) (w ∷ words) zero h l = refl
marked_suc (m ∷ marks) (w ∷ words) (suc i) h l =
    ap (add_if (eqb m 1) w) (marked_suc marks words i (omega arith) (omega arith))
    ∙ add (eqb m 1) (marked_words (take i marks) (take i words)) (add_if (eqb (get_or marks i 0) 1) (get_or words i 0) [])
  where
    add : (b : Bool) (k r : List ℕ) → add_if b w (k ++ r) ≡ add_if b w k ++ r
    add true k r = refl
    add false k r = refl

-- after i words: `at` marked ones stand at the start, and the rest is to come
pub record Copied (words marks : List ℕ) (n : ℕ) (out₀ out : List ℕ) (i at : ℕ) : Type 0 where
  pub long : length out ≡ length out₀
  pub within : at ≤ n
  pub counted : at + sum (drop i marks) ≡ n
  pub copied : take at out ≡ marked_words (take i marks) (take i words)
  pub rest : drop n out ≡ drop n out₀

pub copied_index : (words marks : List ℕ) (n : ℕ) (out₀ out : List ℕ) (i at : ℕ) → Copied words marks n out₀ out i at → at < n
    → i < length marks
copied_index words marks n out₀ out i at c h = let k : at + sum (drop i marks) ≡ n = c.counted in sum_left marks i (omega arith)

pub copied_more : (words marks : List ℕ) (n : ℕ) (out₀ out : List ℕ) (i at m : ℕ) → Copied words marks n out₀ out i at → at < n
    → length words ≡ length marks → get_or marks i 0 ≤ 1 → n ≤ length out₀ → m ≡ get_or marks i 0
    → Copied words marks n out₀ (set out at (get_or words i 0)) (i + 1) (at + m)
copied_more words marks n out₀ out i at m c h l one room e =
    rw (add-one i, e)
    (record {
      long = length-set out at (get_or words i 0) ∙ c.long;
      within = omega arith;
      counted = next;
      copied = go (eq_or_ne (get_or marks i 0) 1);
      rest = drop-set-lt n out at (get_or words i 0) h ∙ c.rest;
    })
  where
    left : i < length marks
    left = copied_index words marks n out₀ out i at c h

    next : at + get_or marks i 0 + sum (drop (suc i) marks) ≡ n
    next = let k : at + sum (drop i marks) ≡ n = c.counted in let s : sum (drop i marks) ≡ get_or marks i 0 + sum (drop (suc i) marks) =
        sum_drop marks i left in omega arith

    go : (get_or marks i 0 ≡ 1) ⊎ (get_or marks i 0 ≢ 1)
        → take (at + get_or marks i 0) (set out at (get_or words i 0)) ≡ marked_words (take (suc i) marks) (take (suc i) words)
    go (inl p) =
        rw (p, add-one at)
        (take-suc-set out at (get_or words i 0) (let o : length out ≡ length out₀ = c.long in omega arith)
        ∙ ap (λ (k : List ℕ). k ++ get_or words i 0 ∷ []) c.copied
        ∙ sym (marked_suc marks words i left l
        ∙ ap (λ (b : Bool). marked_words (take i marks) (take i words) ++ add_if b (get_or words i 0) []) (eq-eqb (get_or marks i 0) 1 p)))
    go (inr q) =
        let z : at + get_or marks i 0 ≡ at = omega arith in
        rw z
        (take-set-le at out at (get_or words i 0) (le_refl at)
        ∙ c.copied
        ∙ sym (marked_suc marks words i left l
        ∙ ap (λ (b : Bool). marked_words (take i marks) (take i words) ++ add_if b (get_or words i 0) []) (ne_eqb (get_or marks i 0) 1 q)
        ∙ append-nil (marked_words (take i marks) (take i words))))

pub copied_all : (words marks : List ℕ) (n : ℕ) (out₀ out : List ℕ) (i at : ℕ)
    → Copied words marks n out₀ out i at → n ≤ at → n ≤ length out₀
    → out ≡ over (marked_words marks words) out₀
copied_all words marks n out₀ out i at c h room =
    let w : at ≤ n = c.within in
    let e : at ≡ n = omega arith in
    let k : at + sum (drop i marks) ≡ n = c.counted in
    let o : length out ≡ length out₀ = c.long in
    let all : marked_words marks words ≡ take n out =
    marked_parts i marks words
    ∙ ap (λ (r : List ℕ). marked_words (take i marks) (take i words) ++ r) (marked_none (drop i marks) (drop i words) (omega arith))
    ∙ append-nil (marked_words (take i marks) (take i words))
    ∙ sym c.copied
    ∙ ap (λ (j : ℕ). take j out) e
    in
    let long : length (marked_words marks words) ≡ n = ap length all ∙ length-take-le n out (omega arith) in
    sym (take-append-drop n out) ∙ ap₂ (λ (a b : List ℕ). a ++ b) (sym all) (c.rest ∙ ap (λ (j : ℕ). drop j out₀) (sym long))

-- ---- the entries kept

codes_add_if : (b : Bool) (e : Entry) (es : List Entry) → codes (add_if b e es) ≡ add_if (eqb (bit b) 1) e.code (codes es)
codes_add_if true e es = refl
codes_add_if false e es = refl

positions_add_if : (b : Bool) (e : Entry) (es : List Entry) → positions (add_if b e es) ≡ add_if (eqb (bit b) 1) e.position (positions es)
positions_add_if true e es = refl
positions_add_if false e es = refl

length_add_if : (b : Bool) (e : Entry) (es : List Entry) → length (add_if b e es) ≡ bit b + length es
length_add_if true e es = omega arith
length_add_if false e es = omega arith

-- entries kept by a test of their code are those whose code is marked by it
module _ (f : ℕ → Bool) where
  kept : List ℕ → List ℕ → List Entry
  kept cs ps = keep (λ (e : Entry). f e.code) (entries cs ps)

  marks : List ℕ → List ℕ
  marks cs = map (λ (c : ℕ). bit (f c)) cs

  kept_codes : (cs ps : List ℕ) → length cs ≡ length ps → codes (kept cs ps) ≡ marked_words (marks cs) cs
  unfolding kept marks
  kept_codes [] ps h = refl
  kept_codes (c ∷ cs) [] h = absurd (omega arith)
  kept_codes (c ∷ cs) (p ∷ ps) h =
      codes_add_if (f c) (record { code = c; position = p }) (kept cs ps) ∙ ap (add_if (eqb (bit (f c)) 1) c) (kept_codes cs ps (omega arith))

  kept_positions : (cs ps : List ℕ) → length cs ≡ length ps → positions (kept cs ps) ≡ marked_words (marks cs) ps
  unfolding kept marks
  kept_positions [] ps h = refl
  kept_positions (c ∷ cs) [] h = absurd (omega arith)
  kept_positions (c ∷ cs) (p ∷ ps) h =
      positions_add_if (f c) (record { code = c; position = p }) (kept cs ps) ∙ ap (add_if (eqb (bit (f c)) 1) p) (kept_positions cs ps (omega arith))

  kept_number : (cs ps : List ℕ) → length cs ≡ length ps → length (kept cs ps) ≡ sum (marks cs)
  unfolding kept marks
  kept_number [] ps h = refl
  kept_number (c ∷ cs) [] h = absurd (omega arith)
  kept_number (c ∷ cs) (p ∷ ps) h =
      length_add_if (f c) (record { code = c; position = p }) (kept cs ps) ∙ ap (λ (n : ℕ). bit (f c) + n) (kept_number cs ps (omega arith))

module _ (deciding : List ℕ) (c : ℕ) (cs ps : List ℕ) (paired : length cs ≡ length ps) where
  pub strike_codes_lem : codes (strike deciding c (entries cs ps)) ≡ marked_words (marks_of deciding c cs) cs
  unfolding strike kept marks
  strike_codes_lem = kept_codes (λ (x : ℕ). leb (occ x deciding) c) cs ps paired

  pub strike_positions_lem : positions (strike deciding c (entries cs ps)) ≡ marked_words (marks_of deciding c cs) ps
  unfolding strike kept marks
  strike_positions_lem = kept_positions (λ (x : ℕ). leb (occ x deciding) c) cs ps paired

  pub strike_number : length (strike deciding c (entries cs ps)) ≡ sum (marks_of deciding c cs)
  unfolding strike kept marks
  strike_number = kept_number (λ (x : ℕ). leb (occ x deciding) c) cs ps paired

-- as many words are marked as the marks come to
pub marked_number : (f : ℕ → Bool) (l words : List ℕ) → length words ≡ length l
    → length (marked_words (map (λ (x : ℕ). bit (f x)) l) words) ≡ sum (map (λ (x : ℕ). bit (f x)) l)
marked_number f [] words h = refl
marked_number f (x ∷ xs) [] h = absurd (omega arith)
marked_number f (x ∷ xs) (w ∷ ws) h = go (f x) (marked_number f xs ws (omega arith))
  where
    go : (b : Bool) → length (marked_words (map (λ (y : ℕ). bit (f y)) xs) ws) ≡ sum (map (λ (y : ℕ). bit (f y)) xs)
        → length (add_if (eqb (bit b) 1) w (marked_words (map (λ (y : ℕ). bit (f y)) xs) ws)) ≡ bit b + sum (map (λ (y : ℕ). bit (f y)) xs)
    go true e = omega arith
    go false e = omega arith

-- marks are 0 or 1
pub marks_le_one : (f : ℕ → Bool) (l : List ℕ) (k : ℕ) → get_or (map (λ (x : ℕ). bit (f x)) l) k 0 ≤ 1
marks_le_one f [] k = zero-le
marks_le_one f (x ∷ xs) zero = bit_le_one (f x)
marks_le_one f (x ∷ xs) (suc k) = marks_le_one f xs k

pub sum_marks_le : (f : ℕ → Bool) (l : List ℕ) → sum (map (λ (x : ℕ). bit (f x)) l) ≤ length l
sum_marks_le f [] = zero-le
sum_marks_le f (x ∷ xs) =
    let b : bit (f x) ≤ 1 = bit_le_one (f x) in
    let r : sum (map (λ (y : ℕ). bit (f y)) xs) ≤ length xs = sum_marks_le f xs in
    omega arith
