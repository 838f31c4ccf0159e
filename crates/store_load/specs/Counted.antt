-- What judging the words behind word 0 finds: the number of entries, or the refusal.
use Rattle.std.specs.Prelude.{ℕ, ◌+◌, [], ◌∷◌, length}
use Rattle.base.specs.Replies.{Reply, accepted, refused}
use Rattle.store.specs.Load.{Judged, good, bad}

-- of words that n entries stood before: the number of all entries, or the refusal
abbrev pub counted : ℕ → Judged → Reply
counted n (good es) = accepted ((n + length es) ∷ [])
counted n (bad number index) = refused number (index ∷ [])
