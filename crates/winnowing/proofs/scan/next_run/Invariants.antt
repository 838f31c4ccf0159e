-- The sketch of the letters from here on is that of the letters from `from` on.
use Rattle.std.proofs.Common.{ℕ, ◌≤◌, ◌≡◌}
use Rattle.minimizers.specs.Places.{sketch_from}
use Rattle.winnowing.proofs.scan.next_run.Given as goal

abbrev pub invariant-loop-at : goal.invariant-loop-at
invariant-loop-at l = (k w : ℕ) → 1 ≤ k → 1 ≤ w → sketch_from k w l.letters l.at ≡ sketch_from k w l.letters l.from
