-- The loop over the hits: the ring holds the last of them, and back of each is written.
use Rattle.std.proofs.Common.{◌≡◌, length}
use Rattle.base.proofs.Writing.{Written}
use Rattle.session_start.specs.Noting.{words_at, backs as backs_of}
use Rattle.session_start.proofs.Ring.{Ring}
use Rattle.session_start.proofs.per_hit.link.Given as goal

abbrev pub invariant-loop-j : goal.invariant-loop-j
invariant-loop-j l =
    record {
      turns_len : length l.turns ≡ length l.sorted.words.now;
      ring_len : length l.ring ≡ length l.sorted.words.now;
      linked : Ring l.sorted.words.now (words_at l.sorted.words.now l.slots) l.turns l.ring l.j;
      written : Written (backs_of l.sorted.words.now (words_at l.sorted.words.now l.slots)) l.fn.backs l.j l.backs;
    }
