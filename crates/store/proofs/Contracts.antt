-- What the contracts of `save` and `load` say together: what save wrote, load reads back, and whatever loads, save writes.
use Prim.Native.Nat.{ℕ, ◌+◌, ◌*◌, ◌≤◌}
use native.Mathlib.Omega.{arith}
use mathlib.Core.Path.{◌≡◌, sym, ap, ◌∙◌, subst}
use mathlib.Core.List.{List, [], ◌∷◌}
use lib.ListN.{length, take, drop}
use lib.Seq.{take_at}
use Rattle.base.specs.Replies.{accepted, over}
use Rattle.base.specs.Limits.{k_limit, w_limit, letter_limit}
use Rattle.kmers.specs.Kmers.{Entry, codes, positions, entries}
use Rattle.minimizers.specs.Sketch.{sketch}
use Rattle.kmers.proofs.Entries.{entries_same, codes_positions, codes_entries, positions_entries, length_codes, length_positions}
use Rattle.store.specs.Save.{stored, save_reply, save_words}
use Rattle.store.specs.Load.{store_k, store_w, load_reply, load_codes, load_positions}
use Rattle.store.specs.RoundTrip.{LoadsAs, SavesAs}
use Rattle.base.proofs.Ranges.{inside, inside_range}
use Rattle.store.proofs.Entries.{length_entries, length_stored, sketch_storable}
use Rattle.store.proofs.RoundTrip.{judge_stored, store_k_stored, store_w_stored, judge_good, StoreOf}
use Rattle.store.proofs.Accepting.{Savable, save_accepts, save_accepted, save_fills, Loads, load_accepts, load_accepted, load_fills}

-- ---- what save wrote, load reads back

stored_loads :
    (k w : ℕ) (cs ps : List ℕ) (room : ℕ) →
    Savable k w cs ps room →
    (codes₀ positions₀ : List ℕ) →
    length cs ≤ length codes₀ →
    length cs ≤ length positions₀ →
    LoadsAs (stored k w (entries cs ps)) codes₀ positions₀ k w cs ps
stored_loads k w cs ps room s codes₀ positions₀ c-room p-room =
    let es = entries cs ps in
    let size : length es ≡ length cs = length_entries cs ps s.paired in
    let ks = inside_range 1 k_limit k s.k_inside in
    let ws = inside_range 1 w_limit w s.w_inside in
    let loads : Loads (stored k w es) es (length codes₀) (length positions₀) = record {
      judged = judge_stored k w es ks.0 ks.1 ws.0 ws.1 s.entries_good;
      code_enough = omega arith;
      position_enough = omega arith;
    } in
    let fills = load_fills (stored k w es) codes₀ positions₀ es loads in
    record {
      reply =
          load_accepts (stored k w es) (length codes₀) (length positions₀) es loads
          ∙ rw (store_k_stored k w ks.1 es, store_w_stored k w ks.1 ws.1 es, size);
      codes_back = fills.0 ∙ ap (λ (l : List ℕ). over l codes₀) (codes_entries cs ps s.paired);
      positions_back = fills.1 ∙ ap (λ (l : List ℕ). over l positions₀) (positions_entries cs ps s.paired);
    }

-- the n words that save wrote load as what was saved, into any buffers with room
pub saved_loads :
    (k w : ℕ) (cs ps words₀ : List ℕ) (n : ℕ) →
    save_reply k w cs ps (length words₀) ≡ accepted (n ∷ []) →
    (codes₀ positions₀ : List ℕ) →
    length cs ≤ length codes₀ →
    length cs ≤ length positions₀ →
    LoadsAs (take n (save_words k w cs ps words₀)) codes₀ positions₀ k w cs ps
saved_loads k w cs ps words₀ n e codes₀ positions₀ c-room p-room =
    let text = stored k w (entries cs ps) in
    let s = save_accepted k w cs ps (length words₀) e in
    let size : length text ≡ n = cc in
    let written : text ≡ take n (save_words k w cs ps words₀) =
    sym (ap (take n) (save_fills k w cs ps words₀ s.0) ∙ take_at text (drop (length text) words₀) n size)
    in
    subst (λ (l : List ℕ). LoadsAs l codes₀ positions₀ k w cs ps) written
    (stored_loads k w cs ps (length words₀) s.0 codes₀ positions₀ c-room p-room)

-- ---- only such stores load

store_saves : (words : List ℕ) (es : List Entry) → StoreOf words es → (words₀ : List ℕ) → length words ≤ length words₀
    → SavesAs words words₀ (store_k words) (store_w words) (codes es) (positions es)
store_saves words es store words₀ room =
    let k = store_k words in
    let w = store_w words in
    let text : stored k w (entries (codes es) (positions es)) ≡ words = ap (stored k w) (entries_same es) ∙ sym store.whole in
    let savable : Savable k w (codes es) (positions es) (length words₀) = record {
      k_inside = inside 1 k_limit k store.k_low store.k_high;
      w_inside = inside 1 w_limit w store.w_low store.w_high;
      paired = codes_positions es;
      entries_good = rw (entries_same es) store.entries_good;
      enough = rw text room;
    } in
    record {
      reply = save_accepts k w (codes es) (positions es) (length words₀) savable ∙ ap (λ (l : List ℕ). accepted (length l ∷ [])) text;
      words_back = save_fills k w (codes es) (positions es) words₀ savable ∙ ap (λ (l : List ℕ). over l words₀) text;
    }

-- whatever loads, save writes of what load wrote
pub loaded_saves :
    (words codes₀ positions₀ : List ℕ) (k w n : ℕ) →
    load_reply words (length codes₀) (length positions₀) ≡ accepted (k ∷ w ∷ n ∷ []) →
    (words₀ : List ℕ) →
    length words ≤ length words₀ →
    SavesAs words words₀ k w (take n (load_codes words codes₀ positions₀)) (take n (load_positions words codes₀ positions₀))
loaded_saves words codes₀ positions₀ k w n e words₀ room =
    let loaded = load_accepted words (length codes₀) (length positions₀) e in
    let es = loaded.0 in
    let size : length es ≡ n = cc in
    let k_same : k ≡ store_k words = cc in
    let w_same : w ≡ store_w words = cc in
    let fills = load_fills words codes₀ positions₀ es loaded.1 in
    let cs_same = ap (take n) fills.0 ∙ take_at (codes es) (drop (length (codes es)) codes₀) n (length_codes es ∙ size) in
    let ps_same = ap (take n) fills.1 ∙ take_at (positions es) (drop (length (positions es)) positions₀) n (length_positions es ∙ size) in
    rw (k_same, w_same, cs_same, ps_same) (store_saves words es (judge_good words es loaded.1.judged) words₀ room)

-- every sketch of accepted letters is saved where there is room
pub sketch_saves :
    (k w : ℕ) (letters : List ℕ) →
    1 ≤ k →
    k ≤ k_limit →
    1 ≤ w →
    w ≤ w_limit →
    length letters ≤ letter_limit →
    (room : ℕ) →
    2 * length (sketch k w letters) + 2 ≤ room →
    save_reply k w (codes (sketch k w letters)) (positions (sketch k w letters)) room ≡ accepted ((2 * length (sketch k w letters) + 2) ∷ [])
sketch_saves k w letters k_low k_high w_low w_high few room enough =
    let es = sketch k w letters in
    let size : length (stored k w (entries (codes es) (positions es))) ≡ 2 * length es + 2 =
    ap (λ (l : List Entry). length (stored k w l)) (entries_same es) ∙ length_stored k w es
    in
    save_accepts k w (codes es) (positions es) room
    (record {
      k_inside = inside 1 k_limit k k_low k_high;
      w_inside = inside 1 w_limit w w_low w_high;
      paired = codes_positions es;
      entries_good = rw (entries_same es) (sketch_storable k w letters k_low few);
      enough = rw size enough;
    })
    ∙ ap (λ (n : ℕ). accepted (n ∷ [])) size
