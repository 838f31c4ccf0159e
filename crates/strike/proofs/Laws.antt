-- Laws of striking, over the codes that decide: what is kept keeps its order and positions, and is kept exactly where its code occurs at
-- most c times among them. So a code leaves the read exactly where it leaves the text.
use Prim.Native.Nat.{ℕ, zero, suc, ◌*◌, ◌≤◌, ◌<◌}
use native.Mathlib.Omega.{arith}
use mathlib.Core.Path.{◌≡◌, refl, ap, ◌∙◌}
use mathlib.Core.Bool.{Bool, true, false}
use mathlib.Core.Logic.{◌⊎◌, inl, inr}
use mathlib.Core.List.{List, [], ◌∷◌, map, Memᴰ, Sublistᴰ}
use lib.Dec.{leb}
use lib.ListN.{length, get_or}
use borrow.Author.Tests.{leb-true, leb-false, le-leb, lt-leb}
use Rattle.base.specs.Lists.{bit, add_if, keep}
use Rattle.base.specs.Counts.{occ}
use Rattle.base.proofs.Lists.{keep_mem, mem_keep, length_keep}
use Rattle.base.proofs.Counts.{occ_keep}
use Rattle.kmers.specs.Kmers.{Entry, codes, positions}
use Rattle.strike.specs.Strike.{strike, struck}

-- ---- order

module _ {A : Type 0} where
  keep_sublist : (f : A → Bool) (l : List A) → Sublistᴰ (keep f l) l
  keep_sublist f [] = Sublistᴰ.slnil
  keep_sublist f (a ∷ l) = go (f a) (keep_sublist f l)
    where
      go : (b : Bool) → Sublistᴰ (keep f l) l → Sublistᴰ (add_if b a (keep f l)) (a ∷ l)
      go true s = Sublistᴰ.cons-cons refl s
      go false s = Sublistᴰ.cons s

  map_sublist : {B : Type 0} (g : A → B) {l r : List A} → Sublistᴰ l r → Sublistᴰ (map g l) (map g r)
  map_sublist g Sublistᴰ.slnil = Sublistᴰ.slnil
  map_sublist g (Sublistᴰ.cons s) = Sublistᴰ.cons (map_sublist g s)
  map_sublist g (Sublistᴰ.cons-cons e s) = Sublistᴰ.cons-cons (ap g e) (map_sublist g s)

-- what stands in a sublist stands in the list
sublist_at : {l r : List ℕ} → Sublistᴰ l r → (i : ℕ) → i < length l → (j : ℕ) × (j < length r) × (get_or l i 0 ≡ get_or r j 0)
sublist_at Sublistᴰ.slnil i h = absurd (omega arith)
sublist_at (Sublistᴰ.cons {l₂ = r} s) i h = let t = sublist_at s i h in (suc t.0, (let m : t.0 < length r = t.1 in omega arith), t.2)
sublist_at (Sublistᴰ.cons-cons e s) zero h = (0, omega arith, e)
sublist_at (Sublistᴰ.cons-cons {l₂ = r} e s) (suc i) h =
    let t = sublist_at s i (omega arith) in (suc t.0, (let m : t.0 < length r = t.1 in omega arith), t.2)

-- each number is below every later one
abbrev pub StrictlyRising : List ℕ → Type 0
StrictlyRising l = (i j : ℕ) → i < j → j < length l → get_or l i 0 < get_or l j 0

rising_tail : (x : ℕ) (l : List ℕ) → StrictlyRising (x ∷ l) → StrictlyRising l
rising_tail x l r i j h m = r (suc i) (suc j) (omega arith) (omega arith)

rising_sublist : {l r : List ℕ} → Sublistᴰ l r → StrictlyRising r → StrictlyRising l
rising_sublist Sublistᴰ.slnil rise i j h m = absurd (omega arith)
rising_sublist (Sublistᴰ.cons {a = a} {l₂ = r} s) rise i j h m = rising_sublist s (rising_tail a r rise) i j h m
rising_sublist (Sublistᴰ.cons-cons e s) rise zero zero h m = absurd (omega arith)
rising_sublist (Sublistᴰ.cons-cons {l₂ = r} e s) rise zero (suc j) h m =
    let t = sublist_at s j (omega arith) in
    rw (e, t.2) (rise 0 (suc t.0) (omega arith) (let n : t.0 < length r = t.1 in omega arith))
rising_sublist (Sublistᴰ.cons-cons e s) rise (suc i) zero h m = absurd (omega arith)
rising_sublist (Sublistᴰ.cons-cons {b = b} {l₂ = r} e s) rise (suc i) (suc j) h m = rising_sublist s (rising_tail b r rise) i j (omega arith) (omega arith)

-- ---- codes

codes_keep : (f : ℕ → Bool) (es : List Entry) → codes (keep (λ (e : Entry). f e.code) es) ≡ keep f (codes es)
codes_keep f [] = refl
codes_keep f (e ∷ es) = go (f e.code) ∙ ap (add_if (f e.code) e.code) (codes_keep f es)
  where
    go : (b : Bool) → codes (add_if b e (keep (λ (x : Entry). f x.code) es)) ≡ add_if b e.code (codes (keep (λ (x : Entry). f x.code) es))
    go true = refl
    go false = refl

-- ---- what a strike keeps, whichever codes decide

module _ (deciding : List ℕ) (c : ℕ) (es : List Entry) where
  -- some of the entries, in their order
  pub strike_sublist : Sublistᴰ (strike deciding c es) es
  unfolding strike
  strike_sublist = keep_sublist (λ (e : Entry). leb (occ e.code deciding) c) es

  pub strike_positions_sublist : Sublistᴰ (positions (strike deciding c es)) (positions es)
  strike_positions_sublist = map_sublist (λ (e : Entry). e.position) strike_sublist

  -- no more entries than before
  pub strike_length : length (strike deciding c es) ≤ length es
  unfolding strike
  strike_length = length_keep (λ (e : Entry). leb (occ e.code deciding) c) es

  -- positions that are below a bound still are
  pub strike_below : (n : ℕ) → ((j : ℕ) → j < length (positions es) → get_or (positions es) j 0 < n)
      → (i : ℕ) → i < length (positions (strike deciding c es)) → get_or (positions (strike deciding c es)) i 0 < n
  strike_below n below i h = let at = sublist_at strike_positions_sublist i h in rw at.2 (below at.0 at.1)

  -- positions that rise strictly still do
  pub strike_rising : StrictlyRising (positions es) → StrictlyRising (positions (strike deciding c es))
  strike_rising rise = rising_sublist strike_positions_sublist rise

  -- an entry is kept exactly where it was there and its code occurs at most c times among those that decide
  pub strike_mem : {e : Entry} → Memᴰ e (strike deciding c es) → Memᴰ e es × (occ e.code deciding ≤ c)
  unfolding strike
  strike_mem {e} m =
      let k = keep_mem (λ (x : Entry). leb (occ x.code deciding) c) es m in
      (k.0, leb-true (occ e.code deciding) c k.1)

  pub mem_strike : {e : Entry} → Memᴰ e es → occ e.code deciding ≤ c → Memᴰ e (strike deciding c es)
  unfolding strike
  mem_strike {e} m h = mem_keep (λ (x : Entry). leb (occ x.code deciding) c) m (le-leb (occ e.code deciding) c h)

  codes_kept : codes (strike deciding c es) ≡ keep (λ (x : ℕ). leb (occ x deciding) c) (codes es)
  unfolding strike
  codes_kept = codes_keep (λ (x : ℕ). leb (occ x deciding) c) es

  codes_occ : (x : ℕ) → occ x (codes (strike deciding c es)) ≡ bit (leb (occ x deciding) c) * occ x (codes es)
  codes_occ x = ap (occ x) codes_kept ∙ occ_keep (λ (y : ℕ). leb (occ y deciding) c) x (codes es)

  -- a code that is kept occurs as often as before, and one that is struck no more
  pub kept_occ : (x : ℕ) → occ x deciding ≤ c → occ x (codes (strike deciding c es)) ≡ occ x (codes es)
  kept_occ x h = let one : bit (leb (occ x deciding) c) ≡ 1 = ap bit (le-leb (occ x deciding) c h) in codes_occ x ∙ rw one (omega arith)

  pub struck_occ : (x : ℕ) → c < occ x deciding → occ x (codes (strike deciding c es)) ≡ 0
  struck_occ x h = let none : bit (leb (occ x deciding) c) ≡ 0 = ap bit (lt-leb (occ x deciding) c h) in codes_occ x ∙ rw none (omega arith)

-- ---- the read beside the text

module _ (c : ℕ) (text read : List Entry) (x : ℕ) where
  decide : (occ x (codes text) ≤ c) ⊎ (c < occ x (codes text))
  decide = go (leb (occ x (codes text)) c) refl
    where
      go : (b : Bool) → leb (occ x (codes text)) c ≡ b → (occ x (codes text) ≤ c) ⊎ (c < occ x (codes text))
      go true e = inl (leb-true (occ x (codes text)) c e)
      go false e = inr (leb-false (occ x (codes text)) c e)

  -- a code stays in the read, as often, where the text does not strike it; a code that the text lacks is such a one
  pub read_keeps : occ x (codes (struck c text)) ≡ occ x (codes text) → occ x (codes (strike (codes text) c read)) ≡ occ x (codes read)
  unfolding struck
  read_keeps same = go decide
    where
      go : (occ x (codes text) ≤ c) ⊎ (c < occ x (codes text)) → occ x (codes (strike (codes text) c read)) ≡ occ x (codes read)
      go (inl h) = kept_occ (codes text) c read x h
      go (inr h) =
          let none : occ x (codes (strike (codes text) c text)) ≡ 0 = struck_occ (codes text) c text x h in
          let all : occ x (codes (strike (codes text) c text)) ≡ occ x (codes text) = same in
          absurd (omega arith)

  -- and leaves it where the text strikes it
  pub read_strikes : occ x (codes (struck c text)) < occ x (codes text) → occ x (codes (strike (codes text) c read)) ≡ 0
  unfolding struck
  read_strikes fewer = go decide
    where
      go : (occ x (codes text) ≤ c) ⊎ (c < occ x (codes text)) → occ x (codes (strike (codes text) c read)) ≡ 0
      go (inl h) =
          let all : occ x (codes (strike (codes text) c text)) ≡ occ x (codes text) = kept_occ (codes text) c text x h in
          let less : occ x (codes (strike (codes text) c text)) < occ x (codes text) = fewer in
          absurd (omega arith)
      go (inr h) = struck_occ (codes text) c read x h
