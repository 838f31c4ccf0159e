-- The number and the value of a reply, and for load k and w: what crosses the C boundary, and what `maplist` goes by.
use Rattle.std.specs.Prelude.{ℕ, ◌≡◌, List, [], ◌∷◌}
use Rattle.base.specs.Replies.{Reply, accepted, refused}
use Rattle.answers.specs.declared.Numbers.{Numbers}

-- 0 where the call is accepted, else the number of the refusal
abbrev pub number_of : Reply → ℕ
number_of (accepted values) = 0
number_of (refused number values) = number

-- the last of some values, and 0 where there is none
abbrev pub last_of : List ℕ → ℕ
last_of [] = 0
last_of (x ∷ []) = x
last_of (x ∷ y ∷ rest) = last_of (y ∷ rest)

-- the entries, words or hits answered, behind k and w in what load answers; or the refusal's second value: the words or entries needed,
-- the index, h; 0 where 01's table names none
abbrev pub value_of : Reply → ℕ
value_of (accepted values) = last_of values
value_of (refused number values) = last_of values

-- the lent word for k after load, given as it came: the sketch's k, and a refusal changes nothing
abbrev pub k_after : Reply → ℕ → ℕ
k_after (accepted []) before = before
k_after (accepted (k ∷ rest)) before = k
k_after (refused number values) before = before

-- and the lent word for w
abbrev pub w_after : Reply → ℕ → ℕ
w_after (accepted []) before = before
w_after (accepted (k ∷ [])) before = before
w_after (accepted (k ∷ w ∷ rest)) before = w
w_after (refused number values) before = before

-- the number and the value of a reply
pub record Numbered (reply : Reply) (numbers : Numbers) : Type 0 where
  pub number : numbers.0 ≡ number_of reply
  pub value : numbers.1 ≡ value_of reply
