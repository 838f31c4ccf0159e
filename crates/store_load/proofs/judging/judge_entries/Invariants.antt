-- Judging the words behind n entries, with `low` for the next position, finds what judging all words finds.
use Rattle.std.proofs.Common.{◌≡◌, ◌+◌, ◌*◌, ◌≤◌, length, drop}
use Rattle.store.specs.Load.{judge_from}
use Rattle.store_load.specs.Counted.{counted}
use Rattle.store_load.proofs.judging.judge_entries.Given as goal

abbrev pub invariant-loop-n : goal.invariant-loop-n
invariant-loop-n l =
    record {
      in_words : 2 * l.n + 1 ≤ length l.words;
      same_answer : counted l.n (judge_from l.k (2 * l.n + 1) l.n l.low (drop (2 * l.n + 1) l.words)) ≡ counted 0 (judge_from l.k 1 0 0 (drop 1 l.words));
    }
