-- Which piece comes next: each way out of `fill` meets its contract, by what is left of the two sessions.
use Prim.Native.Nat.{ℕ, ◌+◌, ◌≤◌, ◌<◌}
use native.Mathlib.Omega.{arith}
use mathlib.Core.Path.{◌≡◌, refl, ap, ◌∙◌, subst}
use mathlib.Core.Logic.{◌⊎◌, inl, inr, ◌≢◌}
use mathlib.Core.Bool.{Bool, cond}
use mathlib.Core.List.{List}
use lib.ListN.{length, get_or}
use borrow.Author.Tests.{ne_eqb}
use Rattle.mappings.specs.Cells.{cell_count}
use Rattle.session_words.specs.FirstWords.{passed_at}
use Rattle.strands.specs.declared.Strand.TheVariants.{Forward, Reverse}
use Rattle.list_line.proofs.Writers.{written_inside}
use Rattle.list_lines.specs.Pieces.{cells_left, cell_limit, Fills}
use Rattle.list_lines.specs.declared.filling.Filled.{Filled}
use Rattle.list_lines.proofs.Left.{few_cells, left_some}
use Rattle.list_output.specs.Filling.{left_with, Last, FillsRun}

-- what is left of one session with the other's
pub with_other : (left other : ℕ) → left ≢ 0 → left_with left other ≡ left + other
with_other left other some = ap (λ (b : Bool). cond b 0 (left + other)) (ne_eqb left 0 some)

-- so few cells are passed where some are left
pub few_passed : (work : List ℕ) (left : ℕ) → left ≡ cells_left work → left ≢ 0 → get_or work passed_at 0 ≤ cell_limit
few_passed work left e some =
    let s = left_some work (omega arith) in
    let most : cell_count _ ≤ cell_limit = few_cells _ s.few_hits in
    omega (arith, s.among)

module _ (forward reverse places : List ℕ) (k size size' found : ℕ) (out : List ℕ) (ahead behind : ℕ) (ea : ahead ≡ cells_left forward)
    (eb : behind ≡ cells_left reverse) (r : Filled) where
  -- words that no session has
  pub fills_nothing : (ahead ≡ 0) ⊎ (behind ≡ 0) → (r.written ≡ 0) × (r.found ≡ found) × (r.left ≡ 0)
      → FillsRun forward reverse places k size size' found out r forward reverse out
  fills_nothing none w =
      record {
        inside = omega (arith, w.0);
        none = λ _. (w.0, w.1, w.2, refl, refl, refl);
        of_forward = λ a b. absurd (never none (omega arith) (omega arith));
        of_reverse = λ a b. absurd (never none (omega arith) (omega arith));
        last = λ a b. absurd (never none (omega arith) (omega arith));
      }
    where
      never : (ahead ≡ 0) ⊎ (behind ≡ 0) → 0 < ahead → 0 < behind → ⊥
      never (inl e) a b = omega arith
      never (inr e) a b = omega arith

  module _ (some : ahead ≢ 0) (some' : behind ≢ 0) where
    neither : (cells_left forward ≡ 0) ⊎ (cells_left reverse ≡ 0) → ⊥
    neither (inl e) = some (ea ∙ e)
    neither (inr e) = some' (eb ∙ e)

    module _ (part : Filled) (told : (r.written ≡ part.written) × (r.found ≡ part.found)) where
      -- lines of the forward session
      pub fills_forward : (forward' out' : List ℕ) → 1 < ahead → Fills forward places k size Forward found out part forward' out'
          → r.left ≡ left_with part.left behind → FillsRun forward reverse places k size size' found out r forward' reverse out'
      fills_forward forward' out' more fills left =
          record {
            inside = omega (arith, told.0, fills.inside);
            none = λ e. absurd (neither e);
            of_forward = λ a b. (
              record { part = part; fills = fills; written_is = told.0; found_is = told.1; left_is = left ∙ ap (left_with part.left) eb },
              refl,
            );
            of_reverse = λ a b. absurd (omega arith);
            last = λ a b. absurd (omega arith);
          }

      -- lines of the other one
      pub fills_reverse : (reverse' out' : List ℕ) → ahead ≤ 1 → 1 < behind
          → Fills reverse places k size' Reverse found out part reverse' out'
          → r.left ≡ left_with part.left ahead → FillsRun forward reverse places k size size' found out r forward reverse' out'
      fills_reverse reverse' out' no_more more fills left =
          record {
            inside = omega (arith, told.0, fills.inside);
            none = λ e. absurd (neither e);
            of_forward = λ a b. absurd (omega arith);
            of_reverse = λ a b. (
              record { part = part; fills = fills; written_is = told.0; found_is = told.1; left_is = left ∙ ap (left_with part.left) ea },
              refl,
            );
            last = λ a b. absurd (omega arith);
          }

    -- the last line
    pub fills_last : (cells : ℕ) (out' : List ℕ) → ahead ≤ 1 → behind ≤ 1 → cells ≡ get_or forward passed_at 0 + get_or reverse passed_at 0
        → length out' ≡ length out → Last found cells out r out' → FillsRun forward reverse places k size size' found out r forward reverse out'
    fills_last cells out' no_more no-more' e long l =
        record {
          inside = let i : r.written ≤ length out = written_inside l.line (omega arith) in omega arith;
          none = λ e. absurd (neither e);
          of_forward = λ a b. absurd (omega arith);
          of_reverse = λ a b. absurd (omega arith);
          last = λ a b. (subst (λ (n : ℕ). Last found n out r out') e l, refl, refl);
        }
