-- What the answer of `load` stands for: k, w and the number of entries, or the refusal's number and value.
use Rattle.std.specs.Prelude.{[], ◌∷◌, Result, Ok, Err}
use Rattle.base.specs.Replies.{Reply, accepted}
use Rattle.base.specs.Refusals.{refused_by}
use Rattle.base.specs.declared.refusal.Refusal.{Refusal}
use Rattle.store.specs.declared.Stored.{Stored}

abbrev pub loaded_reply : Result Stored Refusal → Reply
loaded_reply (Ok s) = accepted (s.k ∷ s.w ∷ s.entries ∷ [])
loaded_reply (Err refusal) = refused_by refusal
