-- Laws of the reverse complement: letter by letter, of a whole read, and of its runs.
use Prim.Native.Nat.{ℕ, ◌-◌}
use mathlib.Core.Path.{◌≡◌, refl, sym, ap, ap₂, ◌∙◌}
use mathlib.Core.Bool.{Bool, true, false, cond}
use mathlib.Core.List.{List, [], ◌∷◌, map, reverse, map-map, map_congr_left, reverse-reverse}
use mathlib.Mathlib.Data.List.Basic.{map-reverse_aux}
use lib.Dec.{eqb}
use lib.ListN.{length, length-map, length-reverse}
use Rattle.base.specs.Lists.{extend, parts_between}
use Rattle.base.proofs.Lists.{clash}
use Rattle.kmers.specs.Letters.{value, is_foreign, either_case, runs}
use Rattle.strands.specs.Complement.{complement, reverse_complement}
use Rattle.strands.specs.Upper.{upper, opposite}
use Rattle.strands.proofs.Reversing.{parts_reverse}

-- ---- one letter

-- of four tests the first that passes picks its number
abbrev four : (a c g t : Bool) → ℕ → ℕ → ℕ → ℕ → ℕ → ℕ
four a c g t for_a for_c for_g for_t other = cond a for_a (cond c for_c (cond g for_g (cond t for_t other)))

-- one of the eight in upper case, its complement and its value
data Paired : ℕ → ℕ → ℕ → Type 0 where
  a_t : Paired 65 84 0
  c_g : Paired 67 71 1
  g_c : Paired 71 67 2
  t_a : Paired 84 65 3

paired : (b : ℕ) → is_foreign b ≡ false → Paired (upper b) (complement b) (value b)
unfolding value is_foreign upper complement
paired b h = go (either_case 65 97 b) (either_case 67 99 b) (either_case 71 103 b) (either_case 84 116 b) h
  where
    go : (a c g t : Bool) → eqb (four a c g t 0 1 2 3 4) 4 ≡ false
        → Paired (four a c g t 65 67 71 84 b) (four a c g t 84 71 67 65 b) (four a c g t 0 1 2 3 4)
    go true c g t e = a_t
    go false true g t e = c_g
    go false false true t e = g_c
    go false false false true e = t_a
    go false false false false e = clash refl e

-- where the value is none of the four, no test picks
none_picked : (a c g t : Bool) (for_a for_c for_g for_t b : ℕ) → eqb (four a c g t 0 1 2 3 4) 4 ≡ true → four a c g t for_a for_c for_g for_t b ≡ b
none_picked true c g t for_a for_c for_g for_t b e = clash e refl
none_picked false true g t for_a for_c for_g for_t b e = clash e refl
none_picked false false true t for_a for_c for_g for_t b e = clash e refl
none_picked false false false true for_a for_c for_g for_t b e = clash e refl
none_picked false false false false for_a for_c for_g for_t b e = refl

-- other bytes are kept
pub foreign_kept : (b : ℕ) → is_foreign b ≡ true → complement b ≡ b
unfolding value is_foreign complement
foreign_kept b h = none_picked (either_case 65 97 b) (either_case 67 99 b) (either_case 71 103 b) (either_case 84 116 b) 84 71 67 65 b h

foreign_upper : (b : ℕ) → is_foreign b ≡ true → upper b ≡ b
unfolding value is_foreign upper
foreign_upper b h = none_picked (either_case 65 97 b) (either_case 67 99 b) (either_case 71 103 b) (either_case 84 116 b) 65 67 71 84 b h

-- bytes outside the eight stay outside, and the eight stay among them
pub foreign_same : (b : ℕ) → is_foreign (complement b) ≡ is_foreign b
unfolding value is_foreign
foreign_same b = go (is_foreign b) refl
  where
    among : {u c v : ℕ} → Paired u c v → is_foreign c ≡ false
    among a_t = refl
    among c_g = refl
    among g_c = refl
    among t_a = refl

    go : (foreign : Bool) → is_foreign b ≡ foreign → is_foreign (complement b) ≡ is_foreign b
    go true e = ap is_foreign (foreign_kept b e)
    go false e = among (paired b e) ∙ sym e

-- a letter's value and its complement's make 3
pub value_complement : (b : ℕ) → is_foreign b ≡ false → value (complement b) ≡ 3 - value b
unfolding value
value_complement b h = go (paired b h)
  where
    go : {u c v : ℕ} → Paired u c v → value c ≡ 3 - v
    go a_t = refl
    go c_g = refl
    go g_c = refl
    go t_a = refl

-- the complement of the complement is the letter in upper case
complement_twice : (b : ℕ) → complement (complement b) ≡ upper b
unfolding complement
complement_twice b = go (is_foreign b) refl
  where
    back : {u c v : ℕ} → Paired u c v → complement c ≡ u
    back a_t = refl
    back c_g = refl
    back g_c = refl
    back t_a = refl

    go : (foreign : Bool) → is_foreign b ≡ foreign → complement (complement b) ≡ upper b
    go true e = ap complement (foreign_kept b e) ∙ foreign_kept b e ∙ sym (foreign_upper b e)
    go false e = back (paired b e)

-- ---- a read

map_reverse : {A B : Type 0} (f : A → B) (l : List A) → map f (reverse l) ≡ reverse (map f l)
map_reverse f l = map-reverse_aux f l []

-- no letter is lost or added
pub length_complement : (letters : List ℕ) → length (reverse_complement letters) ≡ length letters
unfolding reverse_complement
length_complement letters = length-reverse (map complement letters) ∙ length-map letters complement

-- complementing twice gives the read back, with the eight letters in upper case
pub twice : (letters : List ℕ) → reverse_complement (reverse_complement letters) ≡ map upper letters
unfolding reverse_complement
twice letters =
    ap reverse (map_reverse complement (map complement letters))
    ∙ reverse-reverse (map complement (map complement letters))
    ∙ map-map complement complement letters
    ∙ map_congr_left {l = letters} (λ b m. complement_twice b)

-- ---- its runs

runs_reverse : (letters : List ℕ) → runs (reverse letters) ≡ reverse (map reverse (runs letters))
unfolding runs
runs_reverse letters =
    let parts : List (List ℕ) = parts_between is_foreign letters in
    ap (map (map value)) (parts_reverse is_foreign letters)
    ∙ map_reverse (map value) (map reverse parts)
    ∙ ap reverse (map-map (map value) reverse parts
    ∙ map_congr_left {l = parts} (λ p m. map_reverse value p)
    ∙ sym (map-map reverse (map value) parts))

-- a value and its partner's: 0 with 3 and 1 with 2
abbrev partner : ℕ → ℕ
partner v = 3 - v

map_extend : (f : ℕ → ℕ) (x : ℕ) (ls : List (List ℕ)) → map (map f) (extend x ls) ≡ extend (f x) (map (map f) ls)
map_extend f x [] = refl
map_extend f x (l ∷ ls) = refl

runs_complement : (letters : List ℕ) → runs (map complement letters) ≡ map (map partner) (runs letters)
unfolding runs
runs_complement [] = refl
runs_complement (b ∷ bs) = go (is_foreign b) refl (runs_complement bs)
  where
    parts : List (List ℕ)
    parts = parts_between is_foreign bs

    others : List (List ℕ)
    others = parts_between is_foreign (map complement bs)

    go : (foreign : Bool) → is_foreign b ≡ foreign → map (map value) others ≡ map (map partner) (map (map value) parts)
        → runs (complement b ∷ map complement bs) ≡ map (map partner) (runs (b ∷ bs))
    go true e rec = rw (foreign_same b, e) (ap (λ (r : List (List ℕ)). [] ∷ r) rec)
    go false e rec =
        rw (foreign_same b, e)
        (map_extend value (complement b) others
        ∙ ap₂ extend (value_complement b e) rec
        ∙ sym (map_extend partner (value b) (map (map value) parts))
        ∙ ap (map (map partner)) (sym (map_extend value b parts)))

-- the runs of the reverse complement are the runs in reverse order, each of the other strand
pub runs_opposite : (letters : List ℕ) → runs (reverse_complement letters) ≡ reverse (map opposite (runs letters))
unfolding reverse_complement opposite
runs_opposite letters =
    runs_reverse (map complement letters)
    ∙ ap (λ (r : List (List ℕ)). reverse (map reverse r)) (runs_complement letters)
    ∙ ap reverse (map-map reverse (map partner) (runs letters))
