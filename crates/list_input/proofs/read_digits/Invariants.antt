-- The digits so far make a number of 32 bits, and what is left behind them gives the same answer as all.
use Rattle.std.proofs.Common.{◌≡◌, ◌<◌, ◌^◌, drop}
use Rattle.list_input.specs.Answers.{digits_of}
use Rattle.list_input.proofs.read_digits.Given as goal

abbrev pub invariant-loop-b : goal.invariant-loop-b
invariant-loop-b l = (l.value < 2 ^ 32) × (digits_of l.value (drop l.b-index l.bytes) ≡ digits_of 0 l.bytes)
