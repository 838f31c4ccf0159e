-- Runs by position: the sketch of the letters from a position on is that of one run and of what stands behind it.
use Prim.Native.Nat.{ℕ, zero, suc, ◌+◌, ◌-◌, ◌≤◌, ◌<◌, zero-le}
use native.Mathlib.Nat.{add-suc, eq-or-lt_of_le}
use native.Mathlib.Omega.{arith}
use mathlib.Core.Path.{◌≡◌, refl, sym, ap, ap₂, ◌∙◌, subst}
use mathlib.Core.Logic.{◌⊎◌, inl, inr}
use mathlib.Core.Bool.{Bool, true, false, cond}
use mathlib.Core.List.{List, [], ◌∷◌, ◌++◌, map}
use lib.Dec.{leb}
use borrow.Author.Tests.{leb-true, leb-false}
use lib.ListN.{length, get_or, take, drop, length-drop, length-take, length-map, drop_of_length-le}
use lib.Seq.{drop-drop, take_all, get_or-drop}
use Rattle.base.specs.Lists.{parts_between, extend}
use Rattle.kmers.specs.Letters.{value, is_foreign, runs}
use Rattle.kmers.specs.Kmers.{Entry, kmers}
use Rattle.minimizers.specs.Windows.{windows}
use Rattle.minimizers.specs.Sketch.{picked_by, run_sketch, sketch_runs}
use Rattle.minimizers.specs.Places.{span_sketch, sketch_from}
use Rattle.kmers.specs.Places.{run_length, run_end}
use Rattle.kmers.proofs.Spans.{kmers_span}

run_within : (l : List ℕ) → run_length l ≤ length l
run_within [] = zero-le
run_within (a ∷ l) = go (is_foreign a) (run_within l)
  where
    go : (b : Bool) → run_length l ≤ length l → cond b 0 (suc (run_length l)) ≤ suc (length l)
    go true h = zero-le
    go false h = omega arith

-- the parts of a list: the one before the first foreign letter, and those behind that letter, where there is one
parts_run : (l : List ℕ) → run_length l < length l
    → parts_between is_foreign l ≡ take (run_length l) l ∷ parts_between is_foreign (drop (suc (run_length l)) l)
parts_run [] h = absurd (omega arith)
parts_run (a ∷ l) h = go (is_foreign a) (parts_run l) h
  where
    go : (b : Bool) → (run_length l < length l → parts_between is_foreign l ≡ take (run_length l) l ∷ parts_between is_foreign (drop (suc (run_length l)) l))
        → cond b 0 (suc (run_length l)) < suc (length l)
        → cond b ([] ∷ parts_between is_foreign l) (extend a (parts_between is_foreign l))
        ≡ take (cond b 0 (suc (run_length l))) (a ∷ l) ∷ parts_between is_foreign (drop (suc (cond b 0 (suc (run_length l)))) (a ∷ l))
    go true rec h = refl
    go false rec h = ap (extend a) (rec (omega arith))

parts_last : (l : List ℕ) → run_length l ≡ length l → parts_between is_foreign l ≡ l ∷ []
parts_last [] h = refl
parts_last (a ∷ l) h = go (is_foreign a) (parts_last l) h
  where
    go : (b : Bool) → (run_length l ≡ length l → parts_between is_foreign l ≡ l ∷ [])
        → cond b 0 (suc (run_length l)) ≡ suc (length l)
        → cond b ([] ∷ parts_between is_foreign l) (extend a (parts_between is_foreign l)) ≡ (a ∷ l) ∷ []
    go true rec h = absurd (omega arith)
    go false rec h = ap (extend a) (rec (omega arith))

-- the run at a position, as values, has the k-mers of its span
run_span : (k w at e : ℕ) (letters : List ℕ) → 1 ≤ k → at + e ≤ length letters
    → run_sketch k w at (map value (take e (drop at letters))) ≡ span_sketch k w letters at (suc (at + e) - k)
unfolding run_sketch span_sketch
run_span k w at e letters pos h = ap (λ (es : List Entry). picked_by (windows w es) es) (kmers_span k e at letters pos h)

-- nothing is left to add past the end
pub sketch_from_end : (k w at : ℕ) (letters : List ℕ) → length letters ≤ at → sketch_from k w letters at ≡ []
unfolding sketch_from runs sketch_runs run_sketch kmers windows picked_by
sketch_from_end k w at letters h = rw (drop_of_length-le letters h)

-- one run, and what stands behind it
pub sketch_from_run : (k w at : ℕ) (letters : List ℕ) → 1 ≤ k → at ≤ length letters
    → sketch_from k w letters at ≡ span_sketch k w letters at (suc (run_end letters at) - k) ++ sketch_from k w letters (suc (run_end letters at))
unfolding sketch_from runs sketch_runs run_end
sketch_from_run k w at letters pos h = go (eq-or-lt_of_le (run_within l))
  where
    l : List ℕ
    l = drop at letters

    e : ℕ
    e = run_length l

    within : at + e ≤ length letters
    within = omega (arith, run_within l, length-drop at letters)

    next : at + suc (length (map value (take e l))) ≡ suc (at + e)
    next = simp (length-map, length-take) (omega (arith, run_within l))

    behind : List ℕ
    behind = drop (suc (at + e)) letters

    first : (rs : List (List ℕ)) → runs l ≡ map value (take e l) ∷ rs
        → sketch_from k w letters at ≡ span_sketch k w letters at (suc (at + e) - k) ++ sketch_runs k w (suc (at + e)) rs
    first rs p =
        ap (sketch_runs k w at) p
        ∙ ap₂ (λ (es : List Entry) (n : ℕ). es ++ sketch_runs k w n rs) (run_span k w at e letters pos within) next

    go : (e ≡ length l) ⊎ (e < length l)
        → sketch_from k w letters at ≡ span_sketch k w letters at (suc (at + e) - k) ++ sketch_from k w letters (suc (at + e))
    go (inl p) =
        first [] (ap (map (map value)) (parts_last l p ∙ ap (λ (r : List ℕ). r ∷ []) (sym (take_all e l (omega arith)))))
        ∙ ap (λ (es : List Entry). span_sketch k w letters at (suc (at + e) - k) ++ es)
        (sym (sketch_from_end k w (suc (at + e)) letters (omega (arith, length-drop at letters))))
    go (inr p) =
        first (runs behind)
        (ap (map (map value)) (parts_run l p)
        ∙ ap (λ (r : List ℕ). map value (take e l) ∷ runs r) (drop-drop (suc e) at letters ∙ ap (λ (n : ℕ). drop n letters) (add-suc at e)))

pub run_end_within : (letters : List ℕ) (at : ℕ) → at ≤ length letters → (at ≤ run_end letters at) × (run_end letters at ≤ length letters)
unfolding run_end
run_end_within letters at h = let w : run_length (drop at letters) ≤ length (drop at letters) =
    run_within (drop at letters) in (omega arith, omega (arith, length-drop at letters))

run_known : (l : List ℕ) (i : ℕ) → i < run_length l → is_foreign (get_or l i 0) ≡ false
run_known [] i h = absurd (omega arith)
run_known (a ∷ l) i h = go (is_foreign a) refl i h (run_known l)
  where
    go : (b : Bool) → is_foreign a ≡ b → (i : ℕ) → i < cond b 0 (suc (run_length l))
        → ((i : ℕ) → i < run_length l → is_foreign (get_or l i 0) ≡ false)
        → is_foreign (get_or (a ∷ l) i 0) ≡ false
    go true e i h rec = absurd (omega arith)
    go false e zero h rec = e
    go false e (suc i) h rec = rec i (omega arith)

-- no letter of a run is outside the eight
pub run_letters : (letters : List ℕ) (at q : ℕ) → at ≤ q → q < run_end letters at → is_foreign (get_or letters q 0) ≡ false
unfolding run_end
run_letters letters at q h j =
    let e : at + (q - at) ≡ q = omega arith in
    ap (λ (n : ℕ). is_foreign (get_or letters n 0)) (sym e) ∙ ap is_foreign (sym (get_or-drop at letters (q - at) 0))
    ∙ run_known (drop at letters) (q - at) (omega arith)

-- what holds past the end, and of a run and what stands behind it where it holds of that, holds of the sketch from any position on
pub by_runs : (k w : ℕ) (letters : List ℕ) → 1 ≤ k → (P : ℕ → List Entry → Type 0)
    → ((at : ℕ) → length letters ≤ at → P at [])
    → ((at : ℕ) → at ≤ length letters → (es : List Entry) → P (suc (run_end letters at)) es
    → P at (span_sketch k w letters at (suc (run_end letters at) - k) ++ es))
    → (n at : ℕ) → length letters ≤ at + n → P at (sketch_from k w letters at)
by_runs k w letters pos P end run zero at h = subst (P at) (sym (sketch_from_end k w at letters (omega arith))) (end at (omega arith))
by_runs k w letters pos P end run (suc n) at h = go (leb (length letters) at) refl (λ j. by_runs k w letters pos P end run n (suc (run_end letters at)) j)
  where
    go : (b : Bool) → leb (length letters) at ≡ b
        → (length letters ≤ suc (run_end letters at) + n → P (suc (run_end letters at)) (sketch_from k w letters (suc (run_end letters at))))
        → P at (sketch_from k w letters at)
    go true e rec = let j : length letters ≤ at = leb-true (length letters) at e in subst (P at) (sym (sketch_from_end k w at letters j)) (end at j)
    go false e rec =
        let j : at < length letters = leb-false (length letters) at e in
        let i : at ≤ length letters = omega arith in
        let r : at ≤ run_end letters at = (run_end_within letters at i).0 in
        subst (P at) (sym (sketch_from_run k w at letters pos i)) (run at i (sketch_from k w letters (suc (run_end letters at))) (rec (omega arith)))
