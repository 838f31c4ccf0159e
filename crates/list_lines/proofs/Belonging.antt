-- Where positions, k, size and count belong to the session, every line is written for which there is room.
use Prim.Native.Nat.{ℕ, suc, ◌+◌, ◌-◌, ◌≤◌, ◌<◌}
use native.Mathlib.Omega.{arith}
use mathlib.Core.Path.{◌≡◌, sym, ap, ◌∙◌, subst}
use mathlib.Core.Logic.{◌⊎◌, inl, inr}
use mathlib.Core.Bool.{true, false≢true}
use mathlib.Core.List.{List, [], ◌∷◌, ◌++◌, append-nil}
use lib.ListN.{length, take}
use Rattle.mappings.specs.Score.{Task}
use Rattle.mappings.specs.Cells.{Mapping, hit_count}
use Rattle.mappings.proofs.Rule.{total}
use Rattle.mapper.specs.Promise.{Accepts}
use Rattle.mapper.proofs.Accepted.{Admitted, admitted}
use Rattle.strands.specs.declared.Strand.{Strand}
use Rattle.list_lines.specs.Lines.{mapping_lines}
use Rattle.list_lines.specs.Pieces.{line_room, Belongs, cell_limit, finals_after, lines_after, is_held, Done, Full, Stuck, Piece}
use Rattle.list_lines.specs.declared.filling.Filled.{Filled}
use Rattle.list_lines.proofs.Numbers.{held_true}
use Rattle.list_lines.proofs.Going.{printed}
use Rattle.list_lines.proofs.Left.{few_cells}
use Rattle.list_lines.proofs.Rest.{all_passed, left_final, Fitting, fitting_final}

module _ (task : Task) (before places : List ℕ) (k size : ℕ) (strand : Strand) (q found : ℕ)
    (accepts : Accepts task before) (belongs : Belongs task places k size)
    (counted : found ≤ cell_limit + q) where
  limits : Admitted task (length before) (hit_count task ∷ [])
  limits = admitted task (length before) (hit_count task ∷ []) accepts.accepts

  module _ {out : List ℕ} {r : Filled} {work' out' : List ℕ} {q' : ℕ}
      (piece : Piece task places k size strand q found out r out' q' before work') where
    never_stuck : Stuck task places k size strand q found out r out' q' → ⊥
    never_stuck stuck =
        let mapping : Mapping = stuck.mapping in
        let f = left_final task stuck.from mapping (finals_after task q') stuck.next in
        let fits : Fitting task places k size mapping =
        subst (Fitting task places k size) (sym f.1) (fitting_final task places k size limits.limited belongs f.0 f.2) in
        let held : is_held places k size mapping.a mapping.b mapping.m ≡ true =
        held_true places k size mapping.a mapping.b mapping.m fits.holds fits.in_length fits.in_size in
        let c : r.found + q < found + q' = stuck.counted in
        let among : q' ≤ total task = piece.among in
        let few : total task ≤ cell_limit = few_cells (hit_count task) limits.few_hits in
        false≢true (sym stuck.unprinted ∙ printed places k size r.found mapping (omega arith) held)

    belonging : Done task places k size strand q found out r out' q' ⊎ Full task places k size strand q found out r out' q'
    belonging = go piece.ends
      where
        go : Done task places k size strand q found out r out' q' ⊎
            (Full task places k size strand q found out r out' q' ⊎ Stuck task places k size strand q found out r out' q')
            → Done task places k size strand q found out r out' q' ⊎ Full task places k size strand q found out r out' q'
        go (inl all) = inl all
        go (inr (inl full)) = inr full
        go (inr (inr stuck)) = absurd (never_stuck stuck)

    -- with room for a line and cells that remain: some are passed, and what was printed and what is left make up what was left before
    pub record Went : Type 0 where
      pub left_is : r.left ≡ suc (total task - q')
      pub further : q < q'
      pub tally : r.found + length (finals_after task q') ≡ found + length (finals_after task q)
      pub bytes : take r.written out' ++ lines_after task places k size strand q' ≡ lines_after task places k size strand q

    pub went : line_room ≤ length out → q < total task → Went
    went long some = go belonging
      where
        go : Done task places k size strand q found out r out' q' ⊎ Full task places k size strand q found out r out' q' → Went
        go (inl all) =
            let none : finals_after task q' ≡ [] = ap (finals_after task) all.all_passed ∙ all_passed task in
            let passed : q' ≡ total task = all.all_passed in
            let one : r.left ≡ 1 = all.left_is in
            let count : length (finals_after task q') ≡ 0 = ap length none in
            record {
              left_is = omega arith;
              further = omega arith;
              tally = omega (arith, all.all_found);
              bytes =
                  ap (λ (l : List Mapping). take r.written out' ++ mapping_lines places k size strand l) none
                  ∙ append-nil (take r.written out')
                  ∙ all.bytes;
            }
        go (inr full) =
            record {
              left_is = full.left_is;
              further = full.further (omega (arith, full.no_room));
              tally = full.tally;
              bytes = full.bytes;
            }
