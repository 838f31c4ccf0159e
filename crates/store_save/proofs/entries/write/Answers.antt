-- One turn writes the two words of an entry behind those that stand.
use Rattle.std.proofs.Common.{ℕ, suc, refl, ◌≡◌, ◌+◌, ◌*◌, ◌≤◌, ◌<◌, true, List, ◌∷◌, ◌++◌, length, get_or, ap, ap₂, sym, ◌∙◌}
use Rattle.std.proofs.Common.{add-one, arith, lit<, length-set, drop_of_length-le}
use Rattle.std.proofs.Math.Seq.{take-suc-set, drop-set-lt}
use Rattle.base.specs.Limits.{letter_limit}
use Rattle.kmers.specs.Kmers.{entries}
use Rattle.kmers.proofs.Entries.{codes_entries, positions_entries}
use Rattle.store.specs.Words.{is_code}
use Rattle.store.specs.Save.{entry_words, stored, storable}
use Rattle.store.proofs.WordLaws.{code_fits}
use Rattle.store.proofs.Entries.{entries_drop, length_entries, storable_at, storable_length}
use Rattle.store.proofs.Filling.{fill_next, fill_done}
use Rattle.store_save.proofs.entries.write.Goals as goal

module _ (k : ℕ) (cs ps : List ℕ) (same : length cs ≡ length ps) (good : storable k 0 (entries cs ps) ≡ true) where
  -- the words at an index are in their ranges
  storable_index : (i : ℕ) → i < length cs → (is_code k (get_or cs i 0) ≡ true) × (get_or ps i 0 < letter_limit)
  storable_index i h =
      let size : length (entries cs ps) ≡ length cs = length_entries cs ps same in
      let at = storable_at k 0 (entries cs ps) i good (omega arith) in
      (rw (codes_entries cs ps same) at at.0, rw (positions_entries cs ps same) at at.1)

  -- so few entries that their number fits below the kind
  few : length cs ≤ letter_limit
  few =
      let size : length (entries cs ps) ≡ length cs = length_entries cs ps same in
      let bound : 0 + length (entries cs ps) ≤ letter_limit = storable_length k 0 (entries cs ps) (omega arith) good in
      omega arith

pub loop-i-init : goal.loop-i-init
unfolding stored
loop-i-init c =
    let cs = c.args.codes.now in
    let ps = c.args.positions.now in
    let some : 0 < length c.args.words.now = omega arith in
    record {
      same_length = length-set c.args.words.now 0 c.header.result;
      joined =
          ap (λ (l : List ℕ). l ++ entry_words (length cs) (entries cs ps)) (take-suc-set c.args.words.now 0 c.header.result some)
          ∙ ap₂ (λ (x n : ℕ). x ∷ entry_words n (entries cs ps)) c.header.ensures (sym (length_entries cs ps c.requires.codes_len));
      beyond = drop-set-lt 1 c.args.words.now 0 c.header.result (lit< tt);
    }

pub word-requires : goal.word-requires
word-requires c =
    let a = c.args in
    let in_range = storable_index a.k a.codes.now a.positions.now c.requires.codes_len c.requires.positions_value c.loop-i.i c.loop-i-test.true in
    code_fits a.k (get_or a.codes.now c.loop-i.i 0) c.requires.k_le_k_limit.0 in_range.0

pub word-requires-in-loop-i : goal.word-requires-in-loop-i
word-requires-in-loop-i c =
    let a = c.args in
    omega (arith, (storable_index a.k a.codes.now a.positions.now c.requires.codes_len c.requires.positions_value c.loop-i.i c.loop-i-test.true).1)

pub loop-i-preserved : goal.loop-i-preserved
loop-i-preserved c =
    let i = c.loop-i.i in
    let at₁ : suc (2 * i + 1) ≡ 2 * i + 2 = omega arith in
    let at₂ : suc (2 * i + 2) ≡ 2 * suc i + 1 = omega arith in
    let room : 2 * length c.args.codes.now + 2 ≤ length c.loop-i.words = omega (arith, c.loop-i.invariant.same_length) in
    let f = rw (
      entries_drop c.args.codes.now c.args.positions.now i c.requires.codes_len c.loop-i-test.true,
      ← c.word.ensures,
      ← c.word-in-loop-i.ensures,
    ) at c.loop-i.invariant in
    rw (add-one i) (fill_next at₂ (simp length-set (omega arith)) (fill_next at₁ (omega arith) f))

pub overflow_cast-codes : goal.overflow_cast-codes
overflow_cast-codes c = omega (arith, few c.args.k c.args.codes.now c.args.positions.now c.requires.codes_len c.requires.positions_value)

pub word-requires-2 : goal.word-requires-2
word-requires-2 c = omega (arith, few c.args.k c.args.codes.now c.args.positions.now c.requires.codes_len c.requires.positions_value)

pub returns : goal.returns
returns c =
    let cs = c.args.codes.now in
    let end : c.loop-i.i ≡ length cs = omega arith in
    let none : length cs ≤ c.loop-i.i = omega arith in
    let room : 2 * length cs + 1 < length c.loop-i.words = omega (arith, c.loop-i.invariant.same_length) in
    let f = rw (drop_of_length-le cs none, end, ← c.word-2.ensures) at c.loop-i.invariant in
    fill_done (simp length-set (omega arith)) (fill_next refl room f)
