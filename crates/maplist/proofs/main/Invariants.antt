-- `main` keeps at each turn that the pieces so far and what the two sessions in hand have to print make up an output. The measure is what is left.
use Rattle.std.proofs.Common.{List, ℕ}
use Rattle.list_output.proofs.Next.{After}
use Rattle.maplist.proofs.main.Given as goal

abbrev pub invariant-loop-left : goal.invariant-loop-left
invariant-loop-left l =
    ((bytes done : List ℕ)
    × After bytes l.positions l.forward l.reverse l.sessions.k l.sessions.size l.sessions.reverse_size l.found l.left done)

abbrev pub decreases-loop-left : goal.decreases-loop-left
decreases-loop-left l = l.left
