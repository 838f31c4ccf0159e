-- What an exported step tells of a fraction in a session: kind 3, and the divisor as it is, since it is at most 69,631.
use Prim.Native.Nat.{ℕ, ◌+◌, ◌≤◌, ◌<◌}
use native.Mathlib.Omega.{arith}
use mathlib.Core.Bool.{true}
use mathlib.Core.Path.{◌≡◌, sym, ap, ◌∙◌}
use mathlib.Core.List.{List, [], ◌∷◌}
use lib.IntN.{pos}
use lib.ListN.{length}
use borrow.Author.Tests.{lt-ltb}
use Rattle.base.specs.Limits.{text_limit, pattern_limit, signed_limit}
use Rattle.mappings.specs.declared.Scoring.{Scoring}
use Rattle.mappings.specs.declared.Scoring.TheVariants.{Linear, Jaccard}
use Rattle.mappings.specs.declared.Score.TheVariants.{Fraction}
use Rattle.mappings.specs.Score.{Task, divisor, scored, length_of, shared_of, score_of}
use Rattle.mappings.specs.Cells.{Cell, Mapping, mapping_of, left_end, right_end, hit_count, cell_count}
use Rattle.mappings.specs.FinalTest.{is_final_cell}
use Rattle.mappings.specs.Rule.{Answer, found, finished, spent, refused, rule_answer}
use Rattle.mappings.specs.Steps.{more_cells}
use Rattle.mappings.proofs.Definition1.{test_final}
use Rattle.mappings.proofs.Range.{Limited, lengths}
use Rattle.mappings.proofs.Rule.{Passing, none_left, no_budget, final, pass, passing}
use Rattle.session_start.specs.WorkWords.{session_words}
use Rattle.mapper.specs.Promise.{Accepts}
use Rattle.mapper.proofs.Accepted.{admitted}
use Rattle.exports.specs.Steps.{Lent, kind_of, found_kind, shown, lent_after, Steps}
use Rattle.exports.proofs.Stepping.{session_told}

module _ (task : Task) where
  -- the mapping of a final cell
  abbrev OfFinal : Mapping → Type 0
  OfFinal mapping = (cell : Cell) × (mapping ≡ mapping_of task cell) × (is_final_cell task cell ≡ true)

  -- what a step finds is one
  found_final : {q B : ℕ} {answer : Answer} → Passing task q B answer → (mapping : Mapping) (n : ℕ) → answer ≡ found mapping n → OfFinal mapping
  found_final (none_left e) mapping n f = absurd (let z : ◌≡◌ {A = ℕ} 0 1 = cc in omega arith)
  found_final (no_budget l) mapping n f = absurd (let z : ◌≡◌ {A = ℕ} 0 1 = cc in omega arith)
  found_final (final cell l next e) mapping n f = (cell, (cc), e)
  found_final (pass {answer = answer} cell l next e walk) mapping n f = go answer (λ x i f'. found_final walk x i f') f
    where
      go : (answer : Answer) → ((mapping : Mapping) (n : ℕ) → answer ≡ found mapping n → OfFinal mapping) → more_cells 1 answer ≡ found mapping n
          → OfFinal mapping
      go (found mapping' n') rec f = let same : mapping' ≡ mapping = cc in rec mapping n' (ap (λ (x : Mapping). found x n') same)
      go (finished n') rec f = absurd (let z : ◌≡◌ {A = ℕ} 0 1 = cc in omega arith)
      go (spent n') rec f = absurd (let z : ◌≡◌ {A = ℕ} 0 1 = cc in omega arith)
      go (refused n') rec f = absurd (let z : ◌≡◌ {A = ℕ} 0 1 = cc in omega arith)

  module _ (limited : Limited task) where
    divisor_small : (a b : ℕ) → b < length task.text → (m d : ℕ) → score_of task a b ≡ Fraction m d → d ≤ text_limit + pattern_limit
    unfolding score_of divisor
    divisor_small a b within m d e = go task.scoring e
      where
        go : (scoring : Scoring) → scored scoring (length task.pattern) (shared_of task a b) (length_of a b) ≡ Fraction m d
            → d ≤ text_limit + pattern_limit
        go (Linear u v threshold) f = absurd (let z : ◌≡◌ {A = ℕ} 0 1 = cc in omega arith)
        go (Jaccard numerator g) f =
            let same : divisor (length_of a b) (length task.pattern) (shared_of task a b) ≡ d = cc in omega (arith, lengths task limited a b within)

    final_shown : (mapping : Mapping) → OfFinal mapping → (m d : ℕ) → mapping.score ≡ Fraction m d → shown mapping.score ≡ pos d
    unfolding is_final_cell mapping_of
    final_shown mapping f m d e =
        let within : right_end task f.0 < length task.text =
        (test_final task (left_end task f.0) (right_end task f.0) f.2).within in
        let score : mapping.score ≡ score_of task (left_end task f.0) (right_end task f.0) = ap (λ (x : Mapping). x.score) f.1 in
        let small : d ≤ text_limit + pattern_limit = divisor_small (left_end task f.0) (right_end task f.0) within m d (sym score ∙ e) in
        rw (e, lt-ltb d signed_limit (omega arith))

module _ {work work' : List ℕ} {budget kind cells : ℕ} {before after : Lent} (s : Steps work budget before kind work' after cells) where
  -- in a session
  pub fraction_told : (task : Task) (words : List ℕ) (q : ℕ) → Accepts task words → q ≤ cell_count (hit_count task)
      → work ≡ session_words task words q → (mapping : Mapping) (n m d : ℕ)
      → rule_answer task q budget ≡ found mapping n → mapping.score ≡ Fraction m d
      → (kind ≡ 3) × (after.score ≡ pos d)
  fraction_told task words q accepts among e mapping n m d rule score =
      let t = session_told s task words q accepts among e in
      let limits = admitted task (length words) (hit_count task ∷ []) accepts.accepts in
      let shows : shown mapping.score ≡ pos d =
      final_shown task limits.limited mapping (found_final task (passing task q budget among) mapping n rule) m d score in (
        t.kind_told ∙ ap kind_of rule ∙ ap found_kind score,
        ap (λ (l : Lent). l.score) (t.lent_told ∙ ap (λ (answer : Answer). lent_after answer before) rule) ∙ shows,
      )
