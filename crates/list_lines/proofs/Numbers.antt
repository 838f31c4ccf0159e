-- The numbers of a mapping's line.
use Prim.Native.Nat.{ℕ, suc, ◌+◌, ◌-◌, ◌≤◌, ◌<◌}
use native.Mathlib.Omega.{arith}
use mathlib.Core.Path.{◌≡◌, refl, ◌∙◌}
use mathlib.Core.Bool.{Bool, true, false, ◌&&◌}
use lib.Dec.{eqb, leb, ltb}
use lib.ListN.{length, get_or}
use mathlib.Core.List.{List}
use borrow.Author.Tests.{le-ltb, lt-ltb, le-leb, ltb-true, ltb-false, leb-true, ne_eqb}
use Rattle.std.specs.Prelude.{Result, Ok, Err}
use Rattle.base.specs.declared.refusal.Refusal.{Refusal}
use Rattle.base.proofs.Lists.{and_left, and_right}
use Rattle.mappings.specs.declared.Score.{Score}
use Rattle.mappings.specs.Score.{length_of}
use Rattle.base.specs.Limits.{text_limit, pattern_limit, word_limit}
use Rattle.per_mille.specs.PerMille.{per_mille, is_refused, per_mille_answer}
use Rattle.list_line.specs.Line.{line}
use Rattle.strands.specs.declared.Strand.{Strand}
use Rattle.list_lines.specs.Lines.{mapping_line}
use Rattle.list_lines.specs.Pieces.{Holds, is_held}

-- ---- the test

pub held_true : (places : List ℕ) (k size a b m : ℕ) → Holds places k size a b → m ≤ length_of a b → m ≤ size
    → is_held places k size a b m ≡ true
unfolding is_held
held_true places k size a b m h l s =
    rw (
      le-leb a b h.ordered,
      lt-ltb b (length places) h.known,
      lt-ltb (b - a) text_limit h.short,
      le-leb size pattern_limit h.pattern_small,
      le-leb 1 (get_or places b 0 + k) h.some,
      le-leb (get_or places b 0 + k) word_limit h.last_small,
      le-leb m (length_of a b) l,
      le-leb m size s,
    )

pub held_facts : (places : List ℕ) (k size a b m : ℕ) → is_held places k size a b m ≡ true
    → Holds places k size a b × (m ≤ length_of a b) × (m ≤ size)
unfolding is_held
held_facts places k size a b m e8 =
    let c2 : Bool = leb a b && ltb b (length places) in
    let c3 : Bool = c2 && ltb (b - a) text_limit in
    let c4 : Bool = c3 && leb size pattern_limit in
    let c5 : Bool = c4 && leb 1 (get_or places b 0 + k) in
    let c6 : Bool = c5 && leb (get_or places b 0 + k) word_limit in
    let c7 : Bool = c6 && leb m (length_of a b) in
    let e7 : c7 ≡ true = and_left c7 (leb m size) e8 in
    let e6 : c6 ≡ true = and_left c6 (leb m (length_of a b)) e7 in
    let e5 : c5 ≡ true = and_left c5 (leb (get_or places b 0 + k) word_limit) e6 in
    let e4 : c4 ≡ true = and_left c4 (leb 1 (get_or places b 0 + k)) e5 in
    let e3 : c3 ≡ true = and_left c3 (leb size pattern_limit) e4 in
    let e2 : c2 ≡ true = and_left c2 (ltb (b - a) text_limit) e3 in (
      record {
        ordered = leb-true a b (and_left (leb a b) (ltb b (length places)) e2);
        known = ltb-true b (length places) (and_right (leb a b) (ltb b (length places)) e2);
        short = ltb-true (b - a) text_limit (and_right c2 (ltb (b - a) text_limit) e3);
        pattern_small = leb-true size pattern_limit (and_right c3 (leb size pattern_limit) e4);
        some = leb-true 1 (get_or places b 0 + k) (and_right c4 (leb 1 (get_or places b 0 + k)) e5);
        last_small = leb-true (get_or places b 0 + k) word_limit (and_right c5 (leb (get_or places b 0 + k) word_limit) e6);
      },
      leb-true m (length_of a b) (and_right c6 (leb m (length_of a b)) e7),
      leb-true m size (and_right c7 (leb m size) e8),
    )

-- what per mille answers for a mapping, and what it says of m where it answers
module _ (m a b : ℕ) (ordered : a ≤ b) where
  pub per_mille_is : (size : ℕ) → b - a < text_limit → size ≤ pattern_limit → m ≤ length_of a b → m ≤ size
      → per_mille_answer m (b - a + 1) size ≡ Ok (per_mille m (length_of a b) size)
  unfolding per_mille_answer is_refused length_of
  per_mille_is size short small in_length in_size =
      let len : b - a + 1 ≡ suc b - a = omega arith in
      let some : eqb (suc b - a) 0 ≡ false = ne_eqb (suc b - a) 0 (λ z. omega arith) in
      rw (len, le-ltb (suc b - a) m in_length, le-ltb size m in_size, le-ltb text_limit (suc b - a) (omega arith), le-ltb pattern_limit size small, some)

  pub per_mille_back : (size n : ℕ) → Ok n ≡ per_mille_answer m (b - a + 1) size → (m ≤ length_of a b) × (m ≤ size)
  unfolding per_mille_answer is_refused length_of
  per_mille_back size n e = go (ltb (b - a + 1) m) refl (ltb size m) refl
    where
      refused : (r : Result ℕ Refusal) → r ≡ Err Refusal.BadCounts → Ok n ≡ r → ⊥
      refused r f g = let z : ◌≡◌ {A = ℕ} 0 1 = cc in omega arith

      go : (c : Bool) → ltb (b - a + 1) m ≡ c → (d : Bool) → ltb size m ≡ d → (m ≤ suc b - a) × (m ≤ size)
      go true h d h' = absurd (refused _ refl (rw h at e))
      go false h true h' = absurd (refused _ refl (rw (h, h') at e))
      go false h false h' = let l : m ≤ b - a + 1 = ltb-false (b - a + 1) m h in ((omega arith), ltb-false size m h')

  pub per_mille_known : (size n : ℕ) → b - a < text_limit → size ≤ pattern_limit → Ok n ≡ per_mille_answer m (b - a + 1) size
      → n ≡ per_mille m (length_of a b) size
  per_mille_known size n short small e =
      let back = per_mille_back size n e in
      let same : ◌≡◌ {A = Result ℕ Refusal} (Ok n) (Ok (per_mille m (length_of a b) size)) = e ∙ per_mille_is size short small back.0 back.1 in
      cc

-- the line by the numbers that the code has
pub line_is : (places : List ℕ) (k size : ℕ) (strand : Strand) (a b : ℕ) (score : Score) (m first last per : ℕ) → first ≡ get_or places a 0
    → last ≡ get_or places b 0 + k - 1
    → per ≡ per_mille m (length_of a b) size
    → line first last score m per strand ≡ mapping_line places k size strand (record { a = a; b = b; score = score; m = m })
unfolding mapping_line
line_is places k size strand a b score m first last per ef el ep = λ i. line (ef i) (el i) score m (ep i) strand
