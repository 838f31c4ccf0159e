-- What leaving a column leaves of starts, word by word; and on the way, block after block.
use Prim.Native.Nat.{ℕ, zero, suc, ◌+◌, ◌*◌, ◌≤◌, ◌<◌}
use native.Mathlib.Nat.{le_refl}
use native.Mathlib.Omega.{arith}
use mathlib.Core.Path.{◌≡◌, refl, sym, ap, ◌∙◌}
use mathlib.Core.Logic.{◌⊎◌, inl, inr, ◌≢◌}
use mathlib.Core.Bool.{Bool, true, false, cond, ◌&&◌}
use mathlib.Core.List.{List, [], ◌∷◌}
use borrow.Author.Tests.{le-leb, lt-leb, leb-true, leb-false}
use lib.Dec.{leb}
use lib.ListN.{length, get_or, set, length-set}
use lib.Seq.{get_or-set_same, get_or-set_other, ext_get_or}
use Rattle.base.proofs.Lists.{eq_or_ne}
use Rattle.session_words.specs.Layout.{block_rows}
use Rattle.session_cells.specs.Passing.{lowered}
use Rattle.session_cells.specs.Leaving.{is_lowered, left_starts}

pub length_left : (back column b : ℕ) (starts : List ℕ) → length (left_starts back column b starts) ≡ length starts
length_left back column b [] = refl
length_left back column b (m ∷ starts) = ap suc (length_left back column (suc b) starts)

-- the word of block b, from what the words were
abbrev left : ℕ → ℕ → List ℕ → ℕ → ℕ
left back column starts b = cond (is_lowered back column b) (lowered (get_or starts b 0) 1) (get_or starts b 0)

-- of words that begin with that of block b
get_d_left_from : (back column b : ℕ) (starts : List ℕ) (k : ℕ) → k < length starts
    → get_or (left_starts back column b starts) k 0 ≡ cond (is_lowered back column (b + k)) (lowered (get_or starts k 0) 1) (get_or starts k 0)
get_d_left_from back column b [] k h = absurd (omega arith)
get_d_left_from back column b (m ∷ starts) zero h = let e : b + 0 ≡ b = omega arith in rw e
get_d_left_from back column b (m ∷ starts) (suc k) h =
    let e : b + suc k ≡ suc b + k = omega arith in
    rw e (get_d_left_from back column (suc b) starts k (omega arith))

pub get_d_left : (back column : ℕ) (starts : List ℕ) (b : ℕ) → b < length starts
    → get_or (left_starts back column 0 starts) b 0 ≡ cond (is_lowered back column b) (lowered (get_or starts b 0) 1) (get_or starts b 0)
get_d_left back column starts b h = let e : 0 + b ≡ b = omega arith in rw e at (get_d_left_from back column 0 starts b h)

-- ---- block after block

module _ (back column : ℕ) where
  within : (b : ℕ) → back ≤ b * block_rows → b * block_rows ≤ column → is_lowered back column b ≡ true
  unfolding is_lowered
  within b l r = rw (le-leb back (b * block_rows) l, le-leb (b * block_rows) column r)

  before_back : (b : ℕ) → b * block_rows < back → is_lowered back column b ≡ false
  unfolding is_lowered
  before_back b l = rw (lt-leb back (b * block_rows) l)

  behind_column : (b : ℕ) → column < b * block_rows → is_lowered back column b ≡ false
  unfolding is_lowered
  behind_column b r = rw (lt-leb (b * block_rows) column r) (go (leb back (b * block_rows)))
    where
      go : (t : Bool) → (t && false) ≡ false
      go true = refl
      go false = refl

  -- the words of the blocks before b are as they are to be, those from b on as they were
  pub record Lowering (b : ℕ) (was now : List ℕ) : Type 0 where
    pub size : length now ≡ length was
    pub done : (k : ℕ) → k < b → get_or now k 0 ≡ left back column was k
    pub rest : (k : ℕ) → b ≤ k → get_or now k 0 ≡ get_or was k 0

  pub none_lowered : (b : ℕ) (was : List ℕ) → ((k : ℕ) → k < b → k * block_rows < back) → Lowering b was was
  none_lowered b was h = record { size = refl; done = λ k l. rw (before_back k (h k l)); rest = λ k l. refl }

  pub one_lowered : (b x : ℕ) (was now : List ℕ) → back ≤ b * block_rows → b * block_rows ≤ column → b < length was
      → x ≡ lowered (get_or now b 0) 1 → Lowering b was now → Lowering (b + 1) was (set now b x)
  one_lowered b x was now l r h e s = record {
    size = length-set now b x ∙ s.size;
    done = λ k g. go k g (eq_or_ne k b);
    rest = λ k g. get_or-set_other now b k x 0 (λ f. omega arith) ∙ s.rest k (omega arith);
  }
    where
      go : (k : ℕ) → k < b + 1 → (k ≡ b) ⊎ (k ≢ b) → get_or (set now b x) k 0 ≡ left back column was k
      go k g (inl f) = rw (f, within b l r, ← s.rest b (le_refl b)) (get_or-set_same now b x 0 (omega (arith, s.size)) ∙ e)
      go k g (inr f) = get_or-set_other now b k x 0 f ∙ s.done k (omega arith)

  pub all_lowered : (b : ℕ) (was now : List ℕ) → ((k : ℕ) → b ≤ k → k < length was → column < k * block_rows) → Lowering b was now
      → now ≡ left_starts back column 0 was
  all_lowered b was now h s =
      ext_get_or 0 now (left_starts back column 0 was) (s.size ∙ sym (length_left back column 0 was))
      (λ k l. go k (omega (arith, s.size)) (leb b k) refl)
    where
      go : (k : ℕ) → k < length was → (t : Bool) → leb b k ≡ t → get_or now k 0 ≡ get_or (left_starts back column 0 was) k 0
      go k l true f =
          let r = leb-true b k f in
          s.rest k r ∙ sym (get_d_left back column was k l ∙ rw (behind_column k (h k r l)))
      go k l false f = s.done k (leb-false b k f) ∙ sym (get_d_left back column was k l)
