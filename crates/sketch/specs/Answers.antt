-- What a call of sketch has to meet.
use Rattle.std.specs.Prelude.{ℕ, ◌≡◌, List, length, Result, Ok, Err}
use Rattle.base.specs.Refusals.{refused_by, reply_of}
use Rattle.base.specs.Replies.{Reply}
use Rattle.base.specs.declared.refusal.Refusal.{Refusal}
use Rattle.sketch.specs.Replies.{sketch_reply, sketch_codes, sketch_positions}

-- what is answered after a check: its refusal, or what is left to answer
abbrev pub checked_reply : Result (Unit {0}) Refusal → Reply → Reply
checked_reply (Ok passed) rest = rest
checked_reply (Err refusal) rest = refused_by refusal

-- the answer, and both buffers afterwards, given all as it came
pub record Sketches (k w : ℕ) (letters codes₀ positions₀ : List ℕ) (r : Result ℕ Refusal) (codes' positions' : List ℕ) : Type 0 where
  pub answer : reply_of r ≡ sketch_reply k w letters (length codes₀) (length positions₀)
  pub codes_after : codes' ≡ sketch_codes k w letters codes₀ positions₀
  pub positions_after : positions' ≡ sketch_positions k w letters codes₀ positions₀
