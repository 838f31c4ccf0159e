-- The loop over the backs: the hits so far have told their pairs.
use Rattle.std.proofs.Common.{◌≡◌, ℕ, List}
use Rattle.session_start.specs.Noting.{AllIn, backs as backs_of}
use Rattle.session_start.proofs.Reaching.{Told}
use Rattle.session_start.proofs.per_hit.put_pairs.Given as goal

abbrev pub invariant-loop-j : goal.invariant-loop-j
invariant-loop-j l = (p g : List ℕ) → AllIn p g → l.backs ≡ backs_of p g → Told p g l.j l.reach
