-- A linear threshold of an input that is not malformed is a signed number of 32 bits.
use Prim.Native.Nat.{ℕ, zero, suc, ◌≤◌, ◌<◌}
use native.Mathlib.Omega.{arith}
use mathlib.Core.Path.{◌≡◌, refl, subst}
use mathlib.Core.Bool.{Bool, true, false, cond, ◌&&◌, false≢true}
use mathlib.Core.List.{List, [], ◌∷◌}
use lib.Dec.{leb, ltb, eqb}
use lib.ListN.{length, get_or}
use lib.IntN.{pos, neg_ℤ}
use lib.Signed.{mag}
use borrow.Author.Tests.{ltb-true, leb-true}
use Rattle.base.proofs.Lists.{and_left, and_right}
use Rattle.requests.specs.declared.Settings.{Settings}
use Rattle.base.specs.Limits.{line_limit, signed_limit}
use Rattle.base.specs.Bytes.{minus}
use Rattle.mappings.specs.declared.Scoring.TheVariants.{Linear, Jaccard}
use Rattle.mappings.specs.Score.{ThresholdFits}
use Rattle.list_input.specs.Input.{is_decimal, decimal_value, is_unsigned, is_signed, signed_value, is_jaccard, is_last_field, scoring_of, fields, lines}
use Rattle.list_input.specs.Input.{is_first_line, is_well_formed, settings_of, malformed, given, input_of}

negative_fits : (n : ℕ) → 0 < n → n ≤ signed_limit → mag (neg_ℤ (pos n)) < signed_limit
negative_fits zero h l = absurd (omega arith)
negative_fits (suc n) h l = omega arith

signed_fits : (bytes : List ℕ) → is_signed bytes ≡ true → mag (signed_value bytes) < signed_limit
unfolding is_signed signed_value
signed_fits [] e = absurd (false≢true e)
signed_fits (b ∷ bs) e = go (eqb b minus) refl
  where
    go : (t : Bool) → eqb b minus ≡ t → mag (cond (eqb b minus) (neg_ℤ (pos (decimal_value 0 bs))) (pos (decimal_value 0 (b ∷ bs)))) < signed_limit
    go true t =
        let below : (is_decimal bs && ltb 0 (decimal_value 0 bs) && leb (decimal_value 0 bs) signed_limit) ≡ true = rw t at e in
        let some : Bool = ltb 0 (decimal_value 0 bs) in
        let small : Bool = leb (decimal_value 0 bs) signed_limit in
        rw t (negative_fits (decimal_value 0 bs)
        (ltb-true 0 (decimal_value 0 bs) (and_right (is_decimal bs) some (and_left (is_decimal bs && some) small below)))
        (leb-true (decimal_value 0 bs) signed_limit (and_right (is_decimal bs && some) small below)))
    go false t =
        let below : (is_decimal (b ∷ bs) && ltb (decimal_value 0 (b ∷ bs)) signed_limit) ≡ true = rw t at e in
        rw t (ltb-true (decimal_value 0 (b ∷ bs)) signed_limit (and_right (is_decimal (b ∷ bs)) (ltb (decimal_value 0 (b ∷ bs)) signed_limit) below))

-- the word `jaccard` asks for no threshold of this kind
scoring_fits : (fourth fifth : ℕ) (bytes : List ℕ) → is_last_field bytes ≡ true → ThresholdFits (scoring_of fourth fifth bytes)
unfolding scoring_of
scoring_fits fourth fifth bytes e = go (is_jaccard bytes) refl
  where
    go : (t : Bool) → is_jaccard bytes ≡ t → ThresholdFits (cond (is_jaccard bytes) (Jaccard fourth fifth) (Linear fourth fifth (signed_value bytes)))
    go true t = rw t tt
    go false t = rw t (signed_fits bytes (rw t at e))

last_field_lem : (fs : List (List ℕ)) → is_first_line fs ≡ true → is_last_field (get_or fs 5 []) ≡ true
unfolding is_first_line
last_field_lem fs e =
    and_right
    (eqb (length fs) 6 && is_unsigned (get_or fs 0 []) && is_unsigned (get_or fs 1 []) && is_unsigned (get_or fs 2 []) && is_unsigned (get_or fs 3 [])
    && is_unsigned
    (get_or fs 4 []))
    (is_last_field (get_or fs 5 []))
    e

first_line_lem : (ls : List (List ℕ)) → is_well_formed ls ≡ true → is_first_line (fields (get_or ls 0 [])) ≡ true
unfolding is_well_formed
first_line_lem ls e =
    let enough : Bool = leb 4 (length ls) in
    let first : Bool = is_first_line (fields (get_or ls 0 [])) in
    let text : Bool = leb (length (get_or ls 1 [])) line_limit in
    let read : Bool = leb (length (get_or ls 2 [])) line_limit in
    and_right enough first (and_left (enough && first) text (and_left (enough && first && text) read e))

pub threshold_fits : (bytes : List ℕ) (s : Settings) (text read : List ℕ) → input_of bytes ≡ given s text read → ThresholdFits s.scoring
unfolding input_of settings_of
threshold_fits bytes s text read e = go (is_well_formed (lines bytes)) refl
  where
    go : (t : Bool) → is_well_formed (lines bytes) ≡ t → ThresholdFits s.scoring
    go true t =
        let same : given (settings_of (fields (get_or (lines bytes) 0 []))) (get_or (lines bytes) 1 []) (get_or (lines bytes) 2 []) ≡ given s text read =
        rw t at e in
        let fs : List (List ℕ) = fields (get_or (lines bytes) 0 []) in
        let settings : settings_of fs ≡ s = cc in
        subst (λ (a : Settings). ThresholdFits a.scoring) settings
        (scoring_fits (decimal_value 0 (get_or fs 3 [])) (decimal_value 0 (get_or fs 4 [])) (get_or fs 5 [])
        (last_field_lem fs (first_line_lem (lines bytes) t)))
    go false t = let same : malformed ≡ given s text read = rw t at e in absurd (let z : ◌≡◌ {A = ℕ} 0 1 = cc in omega arith)
