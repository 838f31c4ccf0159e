-- No word is of an empty list.
use Rattle.std.proofs.Common.{◌≡◌, length, eqb-true, sym, ◌∙◌}
use Rattle.marking.proofs.Heads.{marks_none}
use Rattle.marking.proofs.lookup.mark_by_list.Goals as goal

pub returns-then-is_empty : goal.returns-then-is_empty
returns-then-is_empty c =
    let none : length c.args.list.now ≡ 0 = eqb-true _ _ (sym c.is_empty.ensures ∙ c.if-is_empty.true) in
    marks_none c.args.list.now c.args.words.now _ _ none c.requires.same_len (c.fill.ensures.after (λ y h. h))
