-- What a writer leaves in a lent buffer: all its bytes, or none where they do not fit.
use Rattle.std.specs.Prelude.{ℕ, ◌+◌, ◌-◌, ◌≡◌, List, ◌++◌, length, take, drop}
use Rattle.list_line.specs.Line.{fitting}

-- a buffer with bytes written from an index on: all other bytes keep their content
unfoldable pub over_from : ℕ → List ℕ → List ℕ → List ℕ
over_from at new old = take at old ++ new ++ drop (at + length new) old

-- the buffer after the bytes were written from an index on where they fit, and the next index, which a writer answers
pub record Written (bytes : List ℕ) (at : ℕ) (before after : List ℕ) (next : ℕ) : Type 0 where
  pub index : next ≡ at + length (fitting (length before - at) bytes)
  pub buffer : after ≡ over_from at (fitting (length before - at) bytes) before
