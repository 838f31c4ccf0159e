-- Laws of the words of a store: a kind and a content make a word and are read off it again, and so do k and w of word 0.
use Prim.Native.Nat.{ℕ, ◌+◌, ◌*◌, ◌^◌, ◌≤◌, ◌<◌, min}
use native.Mathlib.Nat.{le_trans, pow-le-pow_right}
use native.Mathlib.Omega.{arith}
use mathlib.Core.Path.{◌≡◌}
use mathlib.Core.Bool.{true, not, ◌&&◌}
use lib.Dec.{eqb, ltb, leb, lit<}
use borrow.Author.Tests.{lt-ltb, eq-eqb, ltb-true, leb-true, not-true, eqb-true}
use Rattle.base.proofs.Lists.{and_both, and_left, and_right}
use Rattle.base.specs.Limits.{k_limit, w_limit, letter_limit, outside}
use Rattle.base.proofs.Ranges.{inside, inside_range}
use Rattle.store.specs.Words.{kind_unit, kind, content, word, header, header_k, header_w, is_header, is_code, is_position}

pub kind_word : (t x : ℕ) → x < kind_unit → kind (word t x) ≡ t
unfolding kind word
kind_word t x h = omega arith

pub content_word : (t x : ℕ) → x < kind_unit → content (word t x) ≡ x
unfolding content word
content_word t x h = omega arith

pub word_content : (t x : ℕ) → kind x ≡ t → x ≡ word t (content x)
unfolding kind content word
word_content t x h = omega arith

-- ---- codes and positions

is_code_below : (k x : ℕ) → is_code k x ≡ true → x < 4 ^ k
unfolding is_code
is_code_below k x h = ltb-true x (4 ^ k) h

-- the test of a code, against the limit that `code_limit` computes
pub is_code_limit : (k limit x : ℕ) → k ≤ k_limit → limit ≡ 4 ^ min k k_limit → is_code k x ≡ ltb x limit
unfolding is_code
is_code_limit k limit x h e = let same : min k k_limit ≡ k = omega arith in rw (e, same)

-- a code fits below the kind
pub code_fits : (k x : ℕ) → k ≤ k_limit → is_code k x ≡ true → x < kind_unit
code_fits k x h e = le_trans (is_code_below k x e) (pow-le-pow_right (lit< tt) h)

pub is_position_range : (low x : ℕ) → is_position low x ≡ true → (low ≤ x) × (x < letter_limit)
unfolding is_position
is_position_range low x h =
    (leb-true low x (and_left (leb low x) (ltb x letter_limit) h), ltb-true x letter_limit (and_right (leb low x) (ltb x letter_limit) h))

-- ---- word 0

pub header_k_header : (k w : ℕ) → k ≤ k_limit → header_k (header k w) ≡ k
unfolding header word header_k
header_k_header k w h = omega arith

pub header_w_header : (k w : ℕ) → k ≤ k_limit → w ≤ w_limit → header_w (header k w) ≡ w
unfolding header word header_w
header_w_header k w h l = omega arith

-- a word with no bit from 12 on is k and w alone
header_whole : (x : ℕ) → kind x ≡ 0 → content x < 2 ^ 12 → x ≡ header (header_k x) (header_w x)
unfolding kind content header word header_k header_w
header_whole x e l = omega arith

pub header_is_header : (k w : ℕ) → 1 ≤ k → k ≤ k_limit → 1 ≤ w → w ≤ w_limit → is_header (header k w) ≡ true
unfolding is_header header
header_is_header k w k₁ k₂ w₁ w₂ =
    let small : w * 2 ^ 5 + k < 2 ^ 12 = omega arith in
    and_both
    (and_both
    (and_both
    (eq-eqb (kind (header k w)) 0 (kind_word 0 (w * 2 ^ 5 + k) (omega arith)))
    (rw (content_word 0 (w * 2 ^ 5 + k) (omega arith)) (lt-ltb (w * 2 ^ 5 + k) (2 ^ 12) small)))
    (rw (header_k_header k w k₂, inside 1 k_limit k k₁ k₂)))
    (rw (header_w_header k w k₂ w₂, inside 1 w_limit w w₁ w₂))

-- the ranges of a word 0
pub record Header (x : ℕ) : Type 0 where
  pub k_low : 1 ≤ header_k x
  pub k_high : header_k x ≤ k_limit
  pub w_low : 1 ≤ header_w x
  pub w_high : header_w x ≤ w_limit
  pub whole : x ≡ header (header_k x) (header_w x)

pub is_header_holds : (x : ℕ) → is_header x ≡ true → Header x
unfolding is_header
is_header_holds x h =
    let out_k = outside 1 k_limit (header_k x) in
    let out_w = outside 1 w_limit (header_w x) in
    let front = eqb (kind x) 0 && ltb (content x) (2 ^ 12) in
    let ks = inside_range 1 k_limit (header_k x) (not-true out_k (and_right front (not out_k) (and_left (front && not out_k) (not out_w) h))) in
    let ws = inside_range 1 w_limit (header_w x) (not-true out_w (and_right (front && not out_k) (not out_w) h)) in
    let bits = and_left front (not out_k) (and_left (front && not out_k) (not out_w) h) in
    let kind_is = eqb-true (kind x) 0 (and_left (eqb (kind x) 0) (ltb (content x) (2 ^ 12)) bits) in
    let low = ltb-true (content x) (2 ^ 12) (and_right (eqb (kind x) 0) (ltb (content x) (2 ^ 12)) bits) in
    record { k_low = ks.0; k_high = ks.1; w_low = ws.0; w_high = ws.1; whole = header_whole x kind_is low }
