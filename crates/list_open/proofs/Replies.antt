-- The front of a buffer that an accepted call wrote.
use Prim.Native.Nat.{ℕ}
use mathlib.Core.Path.{◌≡◌, sym}
use mathlib.Core.List.{List}
use lib.ListN.{length, take, drop}
use lib.Seq.{take_at}
use Rattle.base.specs.Replies.{over}

-- the words written stand in front
pub front_over : (new old : List ℕ) (n : ℕ) → n ≡ length new → take n (over new old) ≡ new
front_over new old n e = take_at new (drop (length new) old) n (sym e)
