-- Laws of the greater of two score words: an upper bound, the least one, and associative.
use Prim.Native.Nat.{ℕ}
use mathlib.Core.Bool.{Bool, true, false}
use mathlib.Core.Path.{◌≡◌, refl, sym, ap, ◌∙◌}
use Rattle.base.proofs.Lists.{clash}
use Rattle.session_records.specs.Order.{Preorder}
use Rattle.session_records.specs.Records.{greater}

module _ (at_most : ℕ → ℕ → Bool) (order : Preorder at_most) where
  pub same : (a : ℕ) → at_most a a ≡ true
  same a = go (at_most a a) refl
    where
      go : (c : Bool) → at_most a a ≡ c → at_most a a ≡ true
      go true e = e
      go false e = order.total a a e

  -- what is greater than c is greater than each word that is at most c
  pub greater_than_lower : (a b c : ℕ) → at_most b c ≡ true → at_most a c ≡ false → at_most a b ≡ false
  greater_than_lower a b c h n = go (at_most a b) refl
    where
      go : (t : Bool) → at_most a b ≡ t → at_most a b ≡ false
      go true e = clash (order.trans a b c e h) n
      go false e = e

  -- what is at least a word greater than c is greater than c
  pub higher_is_greater : (a b c : ℕ) → at_most a b ≡ true → at_most a c ≡ false → at_most b c ≡ false
  higher_is_greater a b c h n = go (at_most b c) refl
    where
      go : (t : Bool) → at_most b c ≡ t → at_most b c ≡ false
      go true e = clash (order.trans a b c h e) n
      go false e = e

  pub greater_first : (a b : ℕ) → at_most b a ≡ true → greater at_most a b ≡ a
  unfolding greater
  greater_first a b h = rw h

  pub greater_second : (a b : ℕ) → at_most b a ≡ false → greater at_most a b ≡ b
  unfolding greater
  greater_second a b h = rw h

  pub first_at_most : (a b : ℕ) → at_most a (greater at_most a b) ≡ true
  first_at_most a b = go (at_most b a) refl
    where
      go : (c : Bool) → at_most b a ≡ c → at_most a (greater at_most a b) ≡ true
      go true e = ap (at_most a) (greater_first a b e) ∙ same a
      go false e = ap (at_most a) (greater_second a b e) ∙ order.total b a e

  pub second_at_most : (a b : ℕ) → at_most b (greater at_most a b) ≡ true
  second_at_most a b = go (at_most b a) refl
    where
      go : (c : Bool) → at_most b a ≡ c → at_most b (greater at_most a b) ≡ true
      go true e = ap (at_most b) (greater_first a b e) ∙ e
      go false e = ap (at_most b) (greater_second a b e) ∙ same b

  pub greater_least : (a b c : ℕ) → at_most a c ≡ true → at_most b c ≡ true → at_most (greater at_most a b) c ≡ true
  greater_least a b c h k = go (at_most b a) refl
    where
      go : (t : Bool) → at_most b a ≡ t → at_most (greater at_most a b) c ≡ true
      go true e = ap (λ (x : ℕ). at_most x c) (greater_first a b e) ∙ h
      go false e = ap (λ (x : ℕ). at_most x c) (greater_second a b e) ∙ k

  pub greater_assoc : (a b c : ℕ) → greater at_most (greater at_most a b) c ≡ greater at_most a (greater at_most b c)
  greater_assoc a b c = go (at_most b a) (at_most c b) refl refl
    where
      go : (s t : Bool) → at_most b a ≡ s → at_most c b ≡ t → greater at_most (greater at_most a b) c ≡ greater at_most a (greater at_most b c)
      go true true e f =
          rw (greater_first a b e, greater_first b c f, greater_first a b e)
          (greater_first a c (order.trans c b a f e))
      go true false e f = rw (greater_first a b e, greater_second b c f)
      go false true e f = rw (greater_second a b e, greater_first b c f, greater_second a b e)
      go false false e f =
          rw (greater_second a b e, greater_second b c f)
          (sym (greater_second a c (greater_than_lower c a b (order.total b a e) f)))

  pub greater_same : (a : ℕ) → greater at_most a a ≡ a
  greater_same a = greater_first a a (same a)

  pub greater_none : (a : ℕ) → greater at_most a 0 ≡ a
  greater_none a = greater_first a 0 (order.lowest a)
