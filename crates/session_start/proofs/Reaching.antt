-- Reach of each hit, from back of each: what the loop that writes it keeps.
use Prim.Native.Nat.{ℕ, zero, suc, ◌+◌, ◌-◌, ◌≤◌, ◌<◌}
use native.Mathlib.Omega.{arith}
use native.Mathlib.Numerals.{add-one}
use mathlib.Core.Path.{◌≡◌, refl, sym, ap, ◌∙◌}
use mathlib.Core.Logic.{◌⊎◌, inl, inr, ◌≢◌}
use mathlib.Core.Bool.{Bool, true, false, cond}
use mathlib.Core.List.{List}
use lib.Dec.{ltb}
use lib.ListN.{length, get_or, set, replicate, length-set, get_or-replicate}
use lib.Seq.{ext_get_or, get_or-set_same, get_or-set_other}
use borrow.Author.Tests.{lt-ltb, le-ltb, ltb-true, ltb-false}
use Rattle.base.proofs.Lists.{eq_or_ne}
use Rattle.session_start.specs.Tables.{reach, back}
use Rattle.session_start.specs.Noting.{AllIn, backs, reaches, with_pair}
use Rattle.session_start.proofs.Tables.{reach_within, reach_pair, pair_reach, back_pair, pair_back}
use Rattle.session_start.proofs.WorkWords.{length_table, get_d_table}

pub length_backs : (p g : List ℕ) → length (backs p g) ≡ length g
unfolding backs
length_backs p g = length_table (back p g) (length g)

pub get_d_backs : (p g : List ℕ) (j : ℕ) → j < length g → get_or (backs p g) j 0 ≡ back p g j
unfolding backs
get_d_backs p g j h = get_d_table (back p g) (length g) j h

-- ---- reach

pub length_reaches : (p g : List ℕ) → length (reaches p g) ≡ length g
unfolding reaches
length_reaches p g = length_table (reach p g) (length g)

pub pair_some : (b j : ℕ) (l : List ℕ) → 0 < b → set l (b - 1) j ≡ with_pair b j l
pair_some zero j l h = absurd (omega arith)
pair_some (suc i) j l h = let e : suc i - 1 ≡ i = omega arith in ap (λ (n : ℕ). set l n j) e

pub pair_none : (b j : ℕ) (l : List ℕ) → b ≤ 0 → l ≡ with_pair b j l
pair_none zero j l h = refl
pair_none (suc i) j l h = absurd (omega arith)

pub length_with_pair : (b j : ℕ) (l : List ℕ) → length (with_pair b j l) ≡ length l
length_with_pair zero j l = refl
length_with_pair (suc i) j l = length-set l i j

-- a reach as far as the hits before j tell it
abbrev known : ℕ → ℕ → ℕ → ℕ
known h j r = cond (ltb r j) r h

-- the hits before j have told their pairs
pub Told : List ℕ → List ℕ → ℕ → List ℕ → Type 0
Told p g j words = (i : ℕ) → i < length g → get_or words i 0 ≡ known (length g) j (reach p g i)

known_none : (h r : ℕ) → known h 0 r ≡ h
known_none h r = rw (le-ltb r 0 (omega arith))

-- a reach that is not j is known before j as after it
known_same : (h j r : ℕ) → r ≢ j → known h j r ≡ known h (suc j) r
known_same h j r n = go (ltb r j) refl
  where
    go : (b : Bool) → ltb r j ≡ b → cond b r h ≡ known h (suc j) r
    go true e = rw (lt-ltb r (suc j) (omega (arith, ltb-true r j e)))
    go false e = rw (le-ltb r (suc j) (omega (arith, ltb-false r j e)))

module _ (p g : List ℕ) where
  told_none : (words : List ℕ) → ((i : ℕ) → i < length g → get_or words i 0 ≡ length g) → Told p g 0 words
  unfolding Told
  told_none words e i h = e i h ∙ sym (known_none (length g) (reach p g i))

  module _ (all : AllIn p g) where
    -- one hit more
    told_more : (j : ℕ) (words : List ℕ) → j < length g → length words ≡ length g → Told p g j words
        → Told p g (suc j) (with_pair (back p g j) j words)
    unfolding Told
    told_more j words h n t i l = go (back p g j) refl
      where
        -- another hit's reach is not j
        other : (i : ℕ) → i < length g → back p g j ≢ suc i → reach p g i ≢ j
        other i l d e = d (pair_back p g all i j (reach_pair p g all i j l e h))

        go : (b : ℕ) → back p g j ≡ b → get_or (with_pair b j words) i 0 ≡ known (length g) (suc j) (reach p g i)
        go zero e = t i l ∙ known_same (length g) j (reach p g i) (other i l (λ d. absurd (omega (arith, e, d))))
        go (suc k) e = pick (eq_or_ne i k)
          where
            pick : (i ≡ k) ⊎ (i ≢ k) → get_or (set words k j) i 0 ≡ known (length g) (suc j) (reach p g i)
            pick (inl s) =
                let r : reach p g i ≡ j = pair_reach p g all i j (back_pair p g all i j h (e ∙ ap suc (sym s))) in
                ap (λ (m : ℕ). get_or (set words k j) m 0) s
                ∙ get_or-set_same words k j 0 (omega arith)
                ∙ sym (ap (known (length g) (suc j)) r ∙ rw (lt-ltb j (suc j) (omega arith)))
            pick (inr d) =
                get_or-set_other words k i j 0 d
                ∙ t i l
                ∙ known_same (length g) j (reach p g i) (other i l (λ f. d (omega (arith, e, f))))

  told_all : (words : List ℕ) → length words ≡ length g → Told p g (length g) words → words ≡ reaches p g
  unfolding Told reaches
  told_all words n t =
      ext_get_or 0 words (reaches p g) (n ∙ sym (length_reaches p g))
      (λ i l. (let h : i < length g = omega arith in t i h ∙ settled i h ∙ sym (get_d_table (reach p g) (length g) i h)))
    where
      settled : (i : ℕ) → i < length g → known (length g) (length g) (reach p g i) ≡ reach p g i
      settled i l = go (ltb (reach p g i) (length g)) refl
        where
          go : (b : Bool) → ltb (reach p g i) (length g) ≡ b → cond b (reach p g i) (length g) ≡ reach p g i
          go true e = refl
          go false e = omega (arith, ltb-false (reach p g i) (length g) e, reach_within p g i l)

-- the same as the loop over the backs has it
module _ (p g noted : List ℕ) (e : noted ≡ backs p g) where
  length_noted : length noted ≡ length g
  length_noted = ap length e ∙ length_backs p g

  pub told_filled : (words : List ℕ) (n : ℕ) → n ≡ length noted → words ≡ replicate n (length noted) → Told p g 0 words
  told_filled words n s f =
      told_none p g words
      (λ i l. ap (λ (w : List ℕ). get_or w i 0) f ∙ get_or-replicate n i (length noted) 0 (omega (arith, length_noted)) ∙ length_noted)

  pub told_next : AllIn p g → (words next : List ℕ) (j b : ℕ) → j < length noted → length words ≡ length noted → b ≡ get_or noted j 0
      → next ≡ with_pair b j words
      → Told p g j words → Told p g (j + 1) next
  told_next all words next j b h n f w t =
      let l : j < length g = omega (arith, length_noted) in
      let same : b ≡ back p g j = f ∙ ap (λ (l : List ℕ). get_or l j 0) e ∙ get_d_backs p g j l in
      rw (add-one j, w, same) (told_more p g all j words l (omega (arith, length_noted)) t)

  pub told_end : (words : List ℕ) (j : ℕ) → j ≤ length noted → length noted ≤ j → length words ≡ length noted → Told p g j words
      → words ≡ reaches p g
  told_end words j h l n t =
      let end : j ≡ length g = omega (arith, length_noted) in
      told_all p g words (omega (arith, length_noted)) (rw end at t)
