-- `decide::decided`: what is not scorable is not found, and the rest is as `enough` says.
use Rattle.std.proofs.Common.{◌≡◌, sym, ◌∙◌, true, false}
use Rattle.mapper.specs.Deciding.{is_scorable, decides, decided}
use Rattle.mapper.proofs.decide.decided.Goals as goal

pub returns-then-not-is_scorable : goal.returns-then-not-is_scorable
unfolding decided decides
returns-then-not-is_scorable c =
    let no : is_scorable c.args.terms c.args.at.a c.args.at.b c.args.at.m ≡ false = sym c.is_scorable.ensures ∙ c.if-not-is_scorable.true in
    rw no

pub returns-in-Some : goal.returns-in-Some
unfolding decided decides
returns-in-Some c =
    let yes : is_scorable c.args.terms c.args.at.a c.args.at.b c.args.at.m ≡ true = sym c.is_scorable.ensures ∙ c.if-not-is_scorable.false in
    rw (yes, c.in-Some.ensures.1, ← c.in-Some.ensures.0)

pub returns-in-None : goal.returns-in-None
unfolding decided decides
returns-in-None c =
    let yes : is_scorable c.args.terms c.args.at.a c.args.at.b c.args.at.m ≡ true = sym c.is_scorable.ensures ∙ c.if-not-is_scorable.false in
    rw (yes, c.in-None.ensures)
