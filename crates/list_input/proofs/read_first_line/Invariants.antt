-- The numbers so far and the fields that are left give the same answer as all fields.
use Rattle.std.proofs.Common.{◌≡◌, ◌≤◌, ◌-◌, length, take, drop}
use Rattle.list_input.specs.Input.{fields}
use Rattle.list_input.specs.Answers.{first_line_of}
use Rattle.list_input.proofs.Fields.{left}
use Rattle.list_input.proofs.read_first_line.Given as goal

abbrev pub invariant-loop-number : goal.invariant-loop-number
invariant-loop-number l =
    (l.at ≤ length l.line) × (length l.number-items ≡ 5)
    × (left (5 - l.number-index) (take l.number-index l.number-items) (fields (drop l.at l.line)) ≡ first_line_of (fields l.line))
