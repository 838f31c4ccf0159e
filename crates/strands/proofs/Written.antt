-- What stands in an output that is long enough.
use Prim.Native.Nat.{ℕ, ◌≤◌}
use mathlib.Core.Path.{◌≡◌}
use mathlib.Core.List.{List}
use lib.ListN.{length, take, drop}
use lib.Seq.{take_at}
use borrow.Author.Tests.{le-leb}
use Rattle.strands.specs.Complement.{reverse_complement, complement_reply, complement_bytes}
use Rattle.strands.proofs.Laws.{length_complement}

-- its first bytes, as many as the read has, are the reverse complement
pub front_complement : (read out : List ℕ) → length read ≤ length out → take (length read) (complement_bytes read out) ≡ reverse_complement read
unfolding complement_reply complement_bytes
front_complement read out h =
    rw (le-leb (length read) (length out) h)
    (take_at (reverse_complement read) (drop (length (reverse_complement read)) out) (length read) (length_complement read))
