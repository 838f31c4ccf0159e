-- What a call of document 01 returns, and what it leaves in a lent buffer.
use Rattle.std.specs.Prelude.{ℕ, List, ◌++◌, length, drop}

-- accepted, with the numbers answered; or refused, with 01's number and the second value where 01's table names one
pub data Reply : Type 0 where
  accepted : List ℕ → Reply
  refused : ℕ → List ℕ → Reply

-- a buffer of words with these written from its start: words past the last one written keep their content
abbrev pub over : List ℕ → List ℕ → List ℕ
over new old = new ++ drop (length new) old

-- a lent buffer after the call: a refusal changes no buffer
abbrev pub after : Reply → List ℕ → List ℕ → List ℕ
after (accepted values) new old = over new old
after (refused number values) new old = old
