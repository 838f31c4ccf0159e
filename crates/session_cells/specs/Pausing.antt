-- Passing the cells of a column without a change to the part, up to the first cell that matters: one whose score word is at least what the
-- rows up to it have seen, the threshold included.
use Rattle.std.specs.Prelude.{ℕ, zero, suc, cond, List, get_or}
use Rattle.session_records.specs.Records.{greater}
use Rattle.session_cells.specs.declared.cells.Line.{Line}
use Rattle.session_cells.specs.declared.rows.Paused.{Paused}
use Rattle.session_cells.specs.Passing.{reach_at, best_at, lowered, line_score, order_in, in_reach, matters}

-- the next n cells of the line from row i on; the rows before i have seen `highest`
abbrev pub quiet_rows : Line → ℕ → ℕ → ℕ → ℕ → List ℕ → Paused
quiet_rows line zero i m highest part = record { row = i; m = m; highest = highest; score = 0; reach = 0 }
quiet_rows line (suc n) i m highest part =
    let x = get_or part i 0 in
    let s = line_score line m x in
    let seen = greater (order_in line) highest (get_or part (best_at i) 0) in
    let one = in_reach line part i in
    let later = quiet_rows line n (suc i) (lowered m one) seen part in
    cond (matters line seen m x) (record { row = suc i; m = lowered m one; highest = seen; score = s; reach = get_or part (reach_at i) 0 }) later
