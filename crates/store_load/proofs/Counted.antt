-- What the code's answer, a number of entries or a refusal, says of judging and of loading.
use Prim.Native.Nat.{ℕ, suc, ◌+◌}
use native.Mathlib.Omega.{arith}
use mathlib.Core.Path.{◌≡◌, refl, sym, ap, ◌∙◌}
use mathlib.Core.Bool.{true, ◌||◌}
use mathlib.Core.List.{List, [], ◌∷◌}
use lib.Dec.{ltb}
use lib.ListN.{length}
use Rattle.base.specs.Refusals.{refused_by}
use Rattle.base.specs.Replies.{Reply, accepted, after}
use Rattle.base.specs.declared.refusal.Refusal.{Refusal}
use Rattle.kmers.specs.Kmers.{Entry, codes as codes_of, positions as positions_of}
use Rattle.store.specs.Load.{Judged, good, bad, with_entry, entries_of, judge, store_k, store_w}
use Rattle.store.specs.Load.{judged_reply, load_room, load_reply, load_codes, load_positions}
use Rattle.store_load.specs.Counted.{counted}

-- an entry counts as one that stood before
pub counted_entry : (n : ℕ) (e : Entry) (j : Judged) → counted (suc n) j ≡ counted n (with_entry e j)
counted_entry n e (good es) = ap (λ (m : ℕ). accepted (m ∷ [])) (omega arith)
counted_entry n e (bad number index) = refl

-- where a number of entries is counted, judging finds so many
pub counted_good : (j : Judged) {n : ℕ} → accepted (n ∷ []) ≡ counted 0 j → (j ≡ good (entries_of j)) × (length (entries_of j) ≡ n)
counted_good (good es) {n} h = let e : n ≡ 0 + length es = cc in (refl, omega arith)
counted_good (bad number index) h = let z : ◌≡◌ {A = ℕ} 0 1 = cc in absurd (omega arith)

-- a load that is refused changes nothing
pub record Refused (ws cs ps : List ℕ) (refusal : Refusal) : Type 0 where
  pub reply : refused_by refusal ≡ load_reply ws (length cs) (length ps)
  pub codes_same : cs ≡ load_codes ws cs ps
  pub positions_same : ps ≡ load_positions ws cs ps

module _ (ws cs ps : List ℕ) where
  refused_load : (refusal : Refusal) → refused_by refusal ≡ load_reply ws (length cs) (length ps) → Refused ws cs ps refusal
  unfolding load_codes load_positions
  refused_load refusal e =
      record {
        reply = e;
        codes_same = ap (λ (r : Reply). after r (codes_of (entries_of (judge ws))) cs) e;
        positions_same = ap (λ (r : Reply). after r (positions_of (entries_of (judge ws))) ps) e;
      }

  -- what judging refuses, load refuses
  pub refused_judging : (refusal : Refusal) → refused_by refusal ≡ counted 0 (judge ws) → Refused ws cs ps refusal
  unfolding load_reply
  refused_judging refusal h = refused_load refusal (go (judge ws) h)
    where
      go : (j : Judged) → refused_by refusal ≡ counted 0 j → refused_by refusal ≡ judged_reply (store_k ws) (store_w ws) j (length cs) (length ps)
      go (good es) h = let z : ◌≡◌ {A = ℕ} 0 1 = cc in absurd (omega arith)
      go (bad number index) h = h

  -- and so are entries that a buffer has no room for
  pub refused_short : {n : ℕ} → accepted (n ∷ []) ≡ counted 0 (judge ws) → (ltb (length cs) n || ltb (length ps) n) ≡ true
      → Refused ws cs ps (Refusal.TooShort n)
  unfolding load_reply load_room
  refused_short {n} h short =
      let found = counted_good (judge ws) h in
      refused_load (Refusal.TooShort n)
      (sym (ap (λ (j : Judged). judged_reply (store_k ws) (store_w ws) j (length cs) (length ps)) found.0
      ∙ ap (λ (m : ℕ). load_room (store_k ws) (store_w ws) m (length cs) (length ps)) found.1
      ∙ rw short))
