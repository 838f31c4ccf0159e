-- `mapping::put_mapping` meets its contract: the last letter and the per mille are there where the line's numbers hold the mapping, and the part
-- that `line` returned is written from the index on.
use Rattle.std.proofs.Common.{refl, sym, ◌∙◌, le_refl}
use mathlib.Core.Bool.{false≢true}
use Rattle.list_line.proofs.Buffers.{same_bytes}
use Rattle.list_line.proofs.Decimal.{line_fits}
use Rattle.list_line.proofs.Writers.{written_inside, written_onward, written_past}
use Rattle.list_lines.proofs.Numbers.{held_true, per_mille_back, per_mille_is, per_mille_known, line_is}
use Rattle.list_lines.proofs.mapping.put_mapping.Goals as goal

pub returns-in_default-per_mille : goal.returns-in_default-per_mille
returns-in_default-per_mille c = record {
  inside = λ h. h;
  onward = le_refl _;
  past = λ h. refl;
  held =
      λ h l s i. absurd
      (c.in_default-per_mille.not-Ok _
      (c.per_mille.ensures.answer ∙ per_mille_is _ _ _ h.ordered _ h.short h.pattern_small l s));
  none = λ e. (refl, refl);
}

pub returns : goal.returns
returns c =
    let held = c.in-Some.ensures.inside _ refl in
    let h = held.0 in
    let per = c.in-Ok.ensures.answer in
    let w = c.put_bytes.ensures in
    record {
      inside = λ i. written_inside w i;
      onward = written_onward w;
      past = λ i. written_past w i;
      held =
          λ _ l s i. same_bytes
          (c.line-part.ensures
          ∙ line_fits _ _ _ _ _ _
          ∙ line_is _ _ _ _ _ _ _ _ _ _ _ refl held.1 (per_mille_known _ _ _ h.ordered _ _ h.short h.pattern_small per)) w;
      none =
          λ t. let back = per_mille_back _ _ _ h.ordered _ _ per in
          absurd (false≢true (sym t ∙ held_true _ _ _ _ _ _ h back.0 back.1));
    }
