-- Tables stored into longer lists of words, from an index on, as a part that was lent; and what each word then is.
use Prim.Native.Nat.{ℕ, ◌+◌, ◌-◌, ◌≤◌, ◌<◌}
use native.Mathlib.Omega.{arith}
use mathlib.Core.Path.{◌≡◌, refl, sym, ap, ◌∙◌}
use mathlib.Core.Logic.{◌⊎◌, inl, inr}
use mathlib.Core.List.{List, ◌++◌, append_assoc}
use lib.ListN.{length, get_or, take, drop, get_or-append}
use lib.Seq.{sets, sets-eq, length-sets, length-take-le, get_or-append-add, get_or-take, get_or-drop, ext_get_or}
use borrow.Rule.Slice.PartMut.{mid_of, put_mid, Post-is, mid_len}
use Rattle.session_start.proofs.WorkWords.{Outside, where_is}

-- what stands before the table, the table, and what stands behind it
pub store_is : (at : ℕ) (table old : List ℕ) → at + length table ≤ length old
    → sets old at table ≡ take at old ++ (table ++ drop (at + length table) old)
store_is at table old l = sets-eq table old at l ∙ append_assoc (take at old) table (drop (at + length table) old)

-- a part that was lent and has come back as the table
pub store_part : (at h : ℕ) (table old new : List ℕ) → new ≡ table → length table ≡ h → at + h ≤ length old
    → put_mid at (at + h - at) old new ≡ sets old at table
store_part at h table old new e n l = rw (Post-is at (at + h) old (omega arith), e, ← n) (sym (store_is at table old (omega arith)))

-- such a part has so many words
pub part_long : (at h : ℕ) (old : List ℕ) → at + h ≤ length old → length (mid_of at (at + h - at) old) ≡ h
part_long at h old l = mid_len at (at + h) old l ∙ (let e : at + h - at ≡ h = omega arith in e)

-- ---- word by word

-- `after` is `before` with this table from index `begins` on
pub record Put (begins : ℕ) (table before after : List ℕ) : Type 0 where
  pub same_length : length after ≡ length before
  pub inside : (i : ℕ) → i < length table → get_or after (begins + i) 0 ≡ get_or table i 0
  pub outside : (n : ℕ) → Outside begins (length table) n → get_or after n 0 ≡ get_or before n 0

-- a table that was stored is put
pub put_at : (a : ℕ) (table before after : List ℕ) → after ≡ sets before a table → a + length table ≤ length before → Put a table before after
put_at a table before after e h = record {
  same_length = ap length e ∙ length-sets before a table;
  inside = λ i l.
      rw is
      (ap (λ (n : ℕ). get_or words (n + i) 0) (sym first)
      ∙ get_or-append-add (take a before) (table ++ drop (a + length table) before) i 0
      ∙ get_or-append table (drop (a + length table) before) 0 i l);
  outside = λ n o. rw is (out n o);
}
  where
    words : List ℕ
    words = take a before ++ (table ++ drop (a + length table) before)

    is : after ≡ words
    is = e ∙ store_is a table before h

    first : length (take a before) ≡ a
    first = length-take-le a before (omega arith)

    out : (n : ℕ) → Outside a (length table) n → get_or words n 0 ≡ get_or before n 0
    out n (inl l) =
        get_or-append (take a before) (table ++ drop (a + length table) before) 0 n (rw first l)
        ∙ get_or-take a before n 0 l
    out n (inr l) =
        let past : n ≡ length (take a before) + (length table + (n - (a + length table))) = omega (arith, first) in
        let back : a + length table + (n - (a + length table)) ≡ n = omega arith in
        ap (λ (k : ℕ). get_or words k 0) past
        ∙ get_or-append-add (take a before) (table ++ drop (a + length table) before) (length table + (n - (a + length table))) 0
        ∙ get_or-append-add table (drop (a + length table) before) (n - (a + length table)) 0
        ∙ get_or-drop (a + length table) before (n - (a + length table)) 0
        ∙ ap (λ (k : ℕ). get_or before k 0) back

-- and nothing else is put
pub put_is : (a : ℕ) (table before after : List ℕ) → Put a table before after → a + length table ≤ length before → after ≡ sets before a table
put_is a table before after put h =
    ext_get_or 0 after (sets before a table) (put.same_length ∙ sym stored.same_length) (λ n l. go n (where_is a (length table) n))
  where
    stored : Put a table before (sets before a table)
    stored = put_at a table before (sets before a table) refl h

    go : (n : ℕ) → ((i : ℕ) × (i < length table) × (n ≡ a + i)) ⊎ Outside a (length table) n → get_or after n 0 ≡ get_or (sets before a table) n 0
    go n (inl at) = rw at.2 (put.inside at.0 at.1 ∙ sym (stored.inside at.0 at.1))
    go n (inr o) = put.outside n o ∙ sym (stored.outside n o)
