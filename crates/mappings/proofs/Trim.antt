-- An end whose code is not in the pattern can be cut off an interval: m stays, and the score does not fall. So each interval that
-- contains two hits scores at most as much as one that ends on hits and contains them. For any score that does not rise
-- when the interval grows and m stays.
use Prim.Native.Nat.{ℕ, zero, suc, ◌+◌, ◌-◌, ◌≤◌, ◌<◌}
use native.Mathlib.Nat.{le_refl, le_of_lt, le_step, not-le_of_lt}
use native.Mathlib.Omega.{arith}
use mathlib.Core.Path.{◌≡◌, refl}
use mathlib.Core.Logic.{◌≢◌}
use mathlib.Core.Bool.{Bool, true, false}
use mathlib.Core.List.{List}
use lib.Dec.{ltb}
use lib.ListN.{length, get_or}
use borrow.Author.Tests.{ltb-true, ltb-false}
use Rattle.base.specs.Counts.{occ}
use Rattle.mappings.specs.Score.{interval, shared, length_of}
use Rattle.mappings.specs.Scored.{Scored}
use Rattle.mappings.proofs.Shared.{shared_foreign, more_left, more_right}

-- the score of [a, b]
abbrev pub score_at : {S : Type 0} → (ℕ → ℕ → S) → List ℕ → List ℕ → ℕ → ℕ → S
score_at score p t a b = score (shared p (interval t a b)) (length_of a b)

-- entry i is a hit: its code is in p
abbrev pub IsHit : List ℕ → List ℕ → ℕ → Type 0
IsHit p t i = 1 ≤ occ (get_or t i 0) p

-- an interval has an entry
pub some_entry : (a b : ℕ) → a ≤ b → 1 ≤ length_of a b
unfolding length_of
some_entry a b h = omega arith

-- a hit from c to a, from which [.., d] scores no less than [c, d]
record LeftEnd {S : Type 0} (at_most : S → S → Bool) (score : ℕ → ℕ → S) (p t : List ℕ) (c a d : ℕ) : Type 0 where
  end : ℕ
  from : c ≤ end
  to : end ≤ a
  hit : IsHit p t end
  more : at_most (score_at score p t c d) (score_at score p t end d) ≡ true

record RightEnd {S : Type 0} (at_most : S → S → Bool) (score : ℕ → ℕ → S) (p t : List ℕ) (c b d : ℕ) : Type 0 where
  end : ℕ
  from : b ≤ end
  to : end ≤ d
  hit : IsHit p t end
  more : at_most (score_at score p t c d) (score_at score p t c end) ≡ true

-- an interval [left, right] within [c, d] that contains [a, b], ends on hits and scores no less than [c, d]
pub record Trimmed {S : Type 0} (at_most : S → S → Bool) (score : ℕ → ℕ → S) (p t : List ℕ) (a b c d : ℕ) : Type 0 where
  pub left : ℕ
  pub right : ℕ
  pub from : c ≤ left
  pub contains_left : left ≤ a
  pub contains_right : b ≤ right
  pub to : right ≤ d
  pub hit_left : IsHit p t left
  pub hit_right : IsHit p t right
  pub more : at_most (score_at score p t c d) (score_at score p t left right) ≡ true

module _ {S : Type 0} (at_most : S → S → Bool) (score : ℕ → ℕ → S) (laws : Scored S at_most score) (p t : List ℕ) where
  reflexive : (y : S) → at_most y y ≡ true
  reflexive y = go (at_most y y) refl
    where
      go : (b : Bool) → at_most y y ≡ b → at_most y y ≡ true
      go true e = e
      go false e = laws.total y y e

  -- through the score of [c, d]
  through : (x z : S) (c d : ℕ) → c ≤ d → at_most x (score_at score p t c d) ≡ true → at_most (score_at score p t c d) z ≡ true
      → at_most x z ≡ true
  through x z c d h = laws.transitive x z (shared p (interval t c d)) (length_of c d) (some_entry c d h)

  -- one foreign end less
  cut_left : (c d : ℕ) → c ≤ d → d < length t → occ (get_or t c 0) p ≡ 0 → at_most (score_at score p t c d) (score_at score p t (suc c) d) ≡ true
  unfolding length_of
  cut_left c d h k e =
      let m : shared p (interval t c d) ≡ shared p (interval t (suc c) d) =
      shared_foreign p (interval t (suc c) d) (interval t c d) (get_or t c 0) e (more_left t c d h k) in
      let l : suc d - c ≡ suc (suc d - suc c) = omega arith in
      rw (m, l) (laws.longer (shared p (interval t (suc c) d)) (suc d - suc c))

  cut_right : (c d : ℕ) → c ≤ d → suc d < length t → occ (get_or t (suc d) 0) p ≡ 0
      → at_most (score_at score p t c (suc d)) (score_at score p t c d) ≡ true
  unfolding length_of
  cut_right c d h k e =
      let m : shared p (interval t c (suc d)) ≡ shared p (interval t c d) =
      shared_foreign p (interval t c d) (interval t c (suc d)) (get_or t (suc d) 0) e (more_right t c d (omega arith) k) in
      let l : suc (suc d) - c ≡ suc (suc d - c) = omega arith in
      rw (m, l) (laws.longer (shared p (interval t c d)) (suc d - c))

  trim_left : (n c a d : ℕ) → c + n ≡ a → a ≤ d → d < length t → IsHit p t a → LeftEnd at_most score p t c a d
  trim_left zero c a d e h k hit =
      let same : c ≡ a = omega arith in
      record { end = c; from = le_refl c; to = omega arith; hit = rw same hit; more = reflexive (score_at score p t c d) }
  trim_left (suc n) c a d e h k hit = go (trim_left n (suc c) a d (omega arith) h k hit) (ltb 0 (occ (get_or t c 0) p)) refl
    where
      go : LeftEnd at_most score p t (suc c) a d → (b : Bool) → ltb 0 (occ (get_or t c 0) p) ≡ b → LeftEnd at_most score p t c a d
      go r true e₁ =
          record { end = c; from = le_refl c; to = omega arith; hit = ltb-true 0 (occ (get_or t c 0) p) e₁; more = reflexive (score_at score p t c d) }
      go r false e₁ =
          let none : occ (get_or t c 0) p ≤ 0 = ltb-false 0 (occ (get_or t c 0) p) e₁ in
          record {
            end = r.end;
            from = le_of_lt r.from;
            to = r.to;
            hit = r.hit;
            more = through (score_at score p t c d) (score_at score p t r.end d) (suc c) d (omega arith)
                (cut_left c d (omega arith) k (omega arith)) r.more;
          }

  trim_right : (d c b : ℕ) → c ≤ b → b ≤ d → d < length t → IsHit p t b → RightEnd at_most score p t c b d
  trim_right zero c b h₁ h₂ k hit =
      let same : b ≡ 0 = omega arith in
      record { end = 0; from = h₂; to = le_refl 0; hit = rw same at hit; more = reflexive (score_at score p t c 0) }
  trim_right (suc d) c b h₁ h₂ k hit = go (λ h. trim_right d c b h₁ h (le_of_lt k) hit) (ltb 0 (occ (get_or t (suc d) 0) p)) refl
    where
      go : (b ≤ d → RightEnd at_most score p t c b d) → (x : Bool) → ltb 0 (occ (get_or t (suc d) 0) p) ≡ x → RightEnd at_most score p t c b (suc d)
      go rec true e =
          record {
            end = suc d;
            from = h₂;
            to = le_refl (suc d);
            hit = ltb-true 0 (occ (get_or t (suc d) 0) p) e;
            more =
                reflexive (score_at score p t c (suc d));
          }
      go rec false e =
          let none : occ (get_or t (suc d) 0) p ≤ 0 = ltb-false 0 (occ (get_or t (suc d) 0) p) e in
          let other : b ≢ suc d = λ same. not-le_of_lt (rw same at hit) none in
          let r : RightEnd at_most score p t c b d = rec (omega arith) in
          record {
            end = r.end;
            from = r.from;
            to = le_step r.to;
            hit = r.hit;
            more = through (score_at score p t c (suc d)) (score_at score p t c r.end) c d (omega arith)
                (cut_right c d (omega arith) k (omega arith)) r.more;
          }

  -- each interval that contains two hits scores at most as much as one that ends on hits and contains them
  pub trim : (a b c d : ℕ) → c ≤ a → a ≤ b → b ≤ d → d < length t → IsHit p t a → IsHit p t b → Trimmed at_most score p t a b c d
  trim a b c d h₁ h₂ h₃ k hit-a hit-b =
      let l : LeftEnd at_most score p t c a d = trim_left (a - c) c a d (omega arith) (omega arith) k hit-a in
      let r : RightEnd at_most score p t l.end b d = trim_right d l.end b (omega arith) h₃ k hit-b in
      record {
        left = l.end;
        right = r.end;
        from = l.from;
        contains_left = l.to;
        contains_right = r.from;
        to = r.to;
        hit_left = l.hit;
        hit_right = r.hit;
        more = through (score_at score p t c d) (score_at score p t l.end r.end) l.end d (omega arith) l.more r.more;
      }
