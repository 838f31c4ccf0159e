-- Codes and positions of entries, and entries of codes and positions.
use Prim.Native.Nat.{ℕ}
use native.Mathlib.Omega.{arith}
use mathlib.Core.Path.{◌≡◌, refl, sym, ap, ◌∙◌}
use mathlib.Core.List.{List, [], ◌∷◌}
use lib.ListN.{length, length-map}
use Rattle.kmers.specs.Kmers.{Entry, codes, positions, entries}

-- as many codes as positions
pub length_codes : (es : List Entry) → length (codes es) ≡ length es
length_codes es = length-map es (λ (e : Entry). e.code)

pub length_positions : (es : List Entry) → length (positions es) ≡ length es
length_positions es = length-map es (λ (e : Entry). e.position)

pub codes_positions : (es : List Entry) → length (codes es) ≡ length (positions es)
codes_positions es = length_codes es ∙ sym (length_positions es)

-- the entries that stand in the two buffers are those that were written
pub entries_same : (es : List Entry) → entries (codes es) (positions es) ≡ es
entries_same [] = refl
entries_same (e ∷ es) = ap (λ (l : List Entry). e ∷ l) (entries_same es)

-- and what stands in the two buffers is what their entries have, where one word of each belongs to an entry
pub codes_entries : (cs ps : List ℕ) → length cs ≡ length ps → codes (entries cs ps) ≡ cs
codes_entries [] ps h = refl
codes_entries (c ∷ cs) [] h = absurd (omega arith)
codes_entries (c ∷ cs) (p ∷ ps) h = ap (λ (l : List ℕ). c ∷ l) (codes_entries cs ps (omega arith))

pub positions_entries : (cs ps : List ℕ) → length cs ≡ length ps → positions (entries cs ps) ≡ ps
positions_entries [] [] h = refl
positions_entries [] (p ∷ ps) h = absurd (omega arith)
positions_entries (c ∷ cs) [] h = absurd (omega arith)
positions_entries (c ∷ cs) (p ∷ ps) h = ap (λ (l : List ℕ). p ∷ l) (positions_entries cs ps (omega arith))
