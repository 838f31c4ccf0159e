-- When save and load accept, and what they leave in the lent buffers then.
use Prim.Native.Nat.{ℕ, ◌≤◌}
use native.Mathlib.Omega.{arith}
use mathlib.Core.Path.{◌≡◌, refl}
use mathlib.Core.Bool.{Bool, true, false, cond, not, ◌||◌}
use mathlib.Core.List.{List, [], ◌∷◌}
use lib.Dec.{eqb, ltb}
use lib.ListN.{length}
use borrow.Author.Tests.{le-ltb, eq-eqb, eqb-true, ltb-false, not-false}
use Rattle.base.specs.Replies.{Reply, accepted, refused, over}
use Rattle.base.proofs.Lists.{or_neither}
use Rattle.base.specs.Limits.{k_limit, w_limit, outside}
use Rattle.kmers.specs.Kmers.{Entry, codes, positions, entries}
use Rattle.store.specs.Save.{stored, storable, save_reply, save_words}
use Rattle.store.specs.Load.{Judged, good, bad, judge, store_k, store_w, load_room, load_reply, load_codes, load_positions}

-- an accepted reply came past a refusal
past : (b : Bool) (number : ℕ) (values : List ℕ) {r : Reply} {answer : List ℕ} → cond b (refused number values) r ≡ accepted answer
    → (b ≡ false) × (r ≡ accepted answer)
past true number values h = let z : ◌≡◌ {A = ℕ} 0 1 = cc in absurd (omega arith)
past false number values h = (refl, h)

-- what save's acceptance says of its arguments
pub record Savable (k w : ℕ) (cs ps : List ℕ) (room : ℕ) : Type 0 where
  pub k_inside : outside 1 k_limit k ≡ false
  pub w_inside : outside 1 w_limit w ≡ false
  pub paired : length cs ≡ length ps
  pub entries_good : storable k 0 (entries cs ps) ≡ true
  pub enough : length (stored k w (entries cs ps)) ≤ room

module _ (k w : ℕ) (cs ps : List ℕ) (room : ℕ) where
  pub save_accepts : Savable k w cs ps room → save_reply k w cs ps room ≡ accepted (length (stored k w (entries cs ps)) ∷ [])
  unfolding save_reply
  save_accepts s =
      rw (
        s.k_inside,
        s.w_inside,
        eq-eqb (length cs) (length ps) s.paired,
        s.entries_good,
        le-ltb room (length (stored k w (entries cs ps))) s.enough,
      )

  pub save_accepted : {answer : List ℕ} → save_reply k w cs ps room ≡ accepted answer
      → Savable k w cs ps room × (answer ≡ length (stored k w (entries cs ps)) ∷ [])
  unfolding save_reply
  save_accepted e =
      let size = length (stored k w (entries cs ps)) in
      let unequal = not (eqb (length cs) (length ps)) in
      let bad_entries = not (storable k 0 (entries cs ps)) in
      let p₁ = past (outside 1 k_limit k) 1 [] e in
      let p₂ = past (outside 1 w_limit w) 2 [] p₁.1 in
      let p₃ = past (unequal || bad_entries) 5 [] p₂.1 in
      let p₄ = past (ltb room size) 4 (size ∷ []) p₃.1 in
      let fits = or_neither unequal bad_entries p₃.0 in (
        record {
          k_inside = p₁.0;
          w_inside = p₂.0;
          paired = eqb-true (length cs) (length ps) (not-false (eqb (length cs) (length ps)) fits.0);
          entries_good = not-false (storable k 0 (entries cs ps)) fits.1;
          enough = ltb-false room size p₄.0;
        },
        cc,
      )

-- the buffer after a save that is accepted
pub save_fills :
    (k w : ℕ) (cs ps words₀ : List ℕ) →
    Savable k w cs ps (length words₀) →
    save_words k w cs ps words₀ ≡ over (stored k w (entries cs ps)) words₀
unfolding save_words
save_fills k w cs ps words₀ s = rw (save_accepts k w cs ps (length words₀) s)

-- what load's acceptance says of the words, and the other way round
pub record Loads (words : List ℕ) (es : List Entry) (code_room position_room : ℕ) : Type 0 where
  pub judged : judge words ≡ good es
  pub code_enough : length es ≤ code_room
  pub position_enough : length es ≤ position_room

module _ (words : List ℕ) (code_room position_room : ℕ) where
  pub load_accepts : (es : List Entry) → Loads words es code_room position_room
      → load_reply words code_room position_room ≡ accepted (store_k words ∷ store_w words ∷ length es ∷ [])
  unfolding load_reply load_room
  load_accepts es l = rw l.judged (rw (le-ltb code_room (length es) l.code_enough, le-ltb position_room (length es) l.position_enough))

  pub load_accepted :
      {answer : List ℕ} →
      load_reply words code_room position_room ≡ accepted answer →
      (es : List Entry) × Loads words es code_room position_room × (answer ≡ store_k words ∷ store_w words ∷ length es ∷ [])
  unfolding load_reply load_room
  load_accepted {answer} e = go (judge words) refl
    where
      go : (j : Judged) → judge words ≡ j
          → (es : List Entry) × Loads words es code_room position_room × (answer ≡ store_k words ∷ store_w words ∷ length es ∷ [])
      go (bad number index) h =
          let refusal : refused number (index ∷ []) ≡ accepted answer = rw h at e in
          let z : ◌≡◌ {A = ℕ} 0 1 = cc in
          absurd (omega arith)
      go (good es) h =
          let short = ltb code_room (length es) || ltb position_room (length es) in
          let answered : cond short (refused 4 (length es ∷ [])) (accepted (store_k words ∷ store_w words ∷ length es ∷ [])) ≡ accepted answer =
          rw h at e in
          let p = past short 4 (length es ∷ []) answered in
          let rooms = or_neither (ltb code_room (length es)) (ltb position_room (length es)) p.0 in (
            es,
            record {
              judged = h;
              code_enough = ltb-false code_room (length es) rooms.0;
              position_enough = ltb-false position_room (length es) rooms.1;
            },
            cc,
          )

-- the buffers after a load that is accepted
pub load_fills :
    (words codes₀ positions₀ : List ℕ) (es : List Entry) →
    Loads words es (length codes₀) (length positions₀) →
    (load_codes words codes₀ positions₀ ≡ over (codes es) codes₀) × (load_positions words codes₀ positions₀ ≡ over (positions es) positions₀)
unfolding load_codes load_positions
load_fills words codes₀ positions₀ es l =
    let reply = load_accepts words (length codes₀) (length positions₀) es l in
    (rw (reply, l.judged), rw (reply, l.judged))
