-- `open_both` meets its contract: the calls of one strand, and then those of the other.
use Rattle.std.proofs.Common.{refl}
use Rattle.std.proofs.lemmas.Result.{err_from_is_err_and}
use Rattle.list_sessions.proofs.Both.{first_refused, second_refused, second_opened}
use Rattle.list_sessions.proofs.open_both.Goals as goal

pub returns-in_err-size : goal.returns-in_err-size
returns-in_err-size c =
    let p = err_from_is_err_and c.from_residual.result c.from_residual.ensures.1 in
    rw (p.1, p.2) (first_refused _ _ _ _ _ _ c.in_err-size.ensures _ refl)

pub returns-in_err-reverse_size : goal.returns-in_err-reverse_size
returns-in_err-reverse_size c =
    let p = err_from_is_err_and c.from_residual-in_err-reverse_size.result c.from_residual-in_err-reverse_size.ensures.1 in
    rw (p.1, p.2)
    (second_refused _ _ _ _ _ _ c.in_ok-size.ensures _ refl c.«open».auto.positions c.in_err-reverse_size.ensures _ refl)

pub returns : goal.returns
returns c =
    second_opened _ _ _ _ _ _ c.in_ok-size.ensures _ refl c.«open».auto.positions c.in_ok-reverse_size.ensures _ refl
