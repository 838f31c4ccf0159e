-- More laws of what a writer leaves in a lent buffer, and of a line written into a part of it.
use Prim.Native.Nat.{ℕ, ◌+◌, ◌-◌, ◌≤◌}
use native.Mathlib.Omega.{arith}
use mathlib.Core.Path.{◌≡◌, refl, sym, ap, ◌∙◌}
use mathlib.Core.Bool.{Bool, true, false, cond}
use mathlib.Core.List.{List, [], ◌++◌}
use lib.Dec.{leb}
use lib.ListN.{length, take, drop, length-append}
use lib.Seq.{drop-drop, drop-append-add, take_at, length-take-le}
use borrow.Author.Tests.{leb-true}
use Rattle.list_line.specs.Writing.{Written, over_from}
use Rattle.list_line.specs.Line.{fitting}
use Rattle.list_line.proofs.Buffers.{written_index, written_buffer}

fitting_short : (room : ℕ) (bytes : List ℕ) → length (fitting room bytes) ≤ room
unfolding fitting
fitting_short room bytes = go (leb (length bytes) room) refl
  where
    go : (b : Bool) → leb (length bytes) room ≡ b → length (cond b bytes []) ≤ room
    go true e = leb-true (length bytes) room e
    go false e = omega arith

module _ {bytes : List ℕ} {at : ℕ} {old new : List ℕ} {next : ℕ} (w : Written bytes at old new next) (inside : at ≤ length old) where
  pub written_inside : next ≤ length old
  written_inside = let e : next ≡ at + length (fitting (length old - at) bytes) = w.index in let l = fitting_short (length old - at) bytes in omega arith

  -- the bytes behind what was written keep their content
  pub written_past : drop next new ≡ drop next old
  unfolding over_from
  written_past =
      let f : List ℕ = fitting (length old - at) bytes in
      let index : next ≡ at + length f = w.index in
      let front : length (take at old ++ f) ≡ length (take at old) + length f = length-append (take at old) f in
      let head : length (take at old) ≡ at = length-take-le at old inside in
      let e : next ≡ length (take at old ++ f) + 0 = omega arith in
      ap (λ (n : ℕ). drop n new) e
      ∙ ap (drop (length (take at old ++ f) + 0)) w.buffer
      ∙ drop-append-add (take at old ++ f) (drop (at + length f) old) 0
      ∙ ap (λ (n : ℕ). drop n old) (sym index)

pub written_onward : {bytes : List ℕ} {at : ℕ} {old new : List ℕ} {next : ℕ} → Written bytes at old new next → at ≤ next
written_onward {bytes} {at} {old} {new} {next} w = let e : next ≡ at + length (fitting (length old - at) bytes) = w.index in omega arith

-- two buffers that agree from an index on agree from any later one on
pub drop_later : (a b : ℕ) (x y : List ℕ) → a ≤ b → drop a x ≡ drop a y → drop b x ≡ drop b y
drop_later a b x y h e =
    let s : b ≡ a + (b - a) = omega arith in
    ap (λ (n : ℕ). drop n x) s
    ∙ sym (drop-drop (b - a) a x)
    ∙ ap (drop (b - a)) e
    ∙ drop-drop (b - a) a y
    ∙ ap (λ (n : ℕ). drop n y) (sym s)

-- the first bytes of a buffer after a writer with room for its bytes
pub take_written : {bytes : List ℕ} {at : ℕ} {old new : List ℕ} {next : ℕ} → Written bytes at old new next → at + length bytes ≤ length old
    → take next new ≡ take at old ++ bytes
unfolding over_from
take_written {bytes} {at} {old} {new} {next} w room =
    let long : length (take at old ++ bytes) ≡ next =
    length-append (take at old) bytes ∙ ap (λ (n : ℕ). n + length bytes) (length-take-le at old (omega arith)) ∙ sym (written_index w room) in
    ap (take next) (written_buffer w room) ∙ take_at (take at old ++ bytes) (drop (at + length bytes) old) next long
