-- A buffer that is filled from its front, word by word.
use Prim.Native.Nat.{ℕ, suc, ◌≤◌, ◌<◌}
use native.Mathlib.Nat.{le_refl}
use native.Mathlib.Numerals.{add-one}
use mathlib.Core.Path.{◌≡◌, sym, ap, ap₂, subst, ◌∙◌}
use mathlib.Core.List.{List, [], ◌∷◌, ◌++◌, append_assoc, append-nil}
use lib.ListN.{length, take, drop, set, length-set, take-append-drop}
use lib.Seq.{take-suc-set, drop-set-lt, drop-drop, length-take-le}
use Rattle.base.specs.Replies.{over}

-- `at` words of the text stand in the buffer, which was `old` before, and the rest of the text is to come
pub record Filling (text old buffer : List ℕ) (at : ℕ) (rest : List ℕ) : Type 0 where
  pub same_length : length buffer ≡ length old
  pub joined : take at buffer ++ rest ≡ text
  pub beyond : drop at buffer ≡ drop at old

-- one word more, behind which the next place is
pub fill_next :
    {text old buffer : List ℕ} {at next x : ℕ} {rest : List ℕ} →
    suc at ≡ next →
    at < length buffer →
    Filling text old buffer at (x ∷ rest) →
    Filling text old (set buffer at x) next rest
fill_next {text} {old} {buffer} {at} {next} {x} {rest} e h f =
    subst (λ (n : ℕ). Filling text old (set buffer at x) n rest) e
    record {
      same_length = length-set buffer at x ∙ f.same_length;
      joined =
          ap (λ (l : List ℕ). l ++ rest) (take-suc-set buffer at x h) ∙ append_assoc (take at buffer) (x ∷ []) rest ∙ f.joined;
      beyond = drop-set-lt (suc at) buffer at x (le_refl (suc at)) ∙ sym (one_further buffer) ∙ ap (drop 1) f.beyond ∙ one_further old;
    }
  where
    one_further : (l : List ℕ) → drop 1 (drop at l) ≡ drop (suc at) l
    one_further l = drop-drop 1 at l ∙ ap (λ (n : ℕ). drop n l) (add-one at)

pub fill_done : {text old buffer : List ℕ} {at : ℕ} → at ≤ length buffer → Filling text old buffer at [] → buffer ≡ over text old
fill_done {text} {old} {buffer} {at} h f =
    let whole : take at buffer ≡ text = sym (append-nil (take at buffer)) ∙ f.joined in
    let size : at ≡ length text = sym (length-take-le at buffer h) ∙ ap length whole in
    sym (take-append-drop at buffer) ∙ ap₂ (λ (l r : List ℕ). l ++ r) whole (f.beyond ∙ ap (λ (n : ℕ). drop n old) size)
