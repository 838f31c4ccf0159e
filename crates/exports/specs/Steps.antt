-- What crosses the C boundary for a step: its kind, the cells that it reports, and the mapping that it hands out.
use Rattle.std.specs.Prelude.{ℕ, cond, ◌≡◌, List, ltb, ℤ, pos, Result}
use Rattle.base.specs.Limits.{signed_limit}
use Rattle.base.specs.declared.refusal.Refusal.{Refusal}
use Rattle.mappings.specs.declared.Score.{Score}
use Rattle.mappings.specs.declared.Score.TheVariants.{Number, Fraction}
use Rattle.mappings.specs.Rule.{Answer, found, finished, spent, refused, reported}
use Rattle.mapper.specs.declared.answer.Stepped.{Stepped}
use Rattle.mapper.specs.Answers.{answer_of}
use Rattle.mapper.specs.Promise.{StepPromise}

-- found under the linear score 0, and under the weighted Jaccard 3
abbrev pub found_kind : Score → ℕ
found_kind (Number z) = 0
found_kind (Fraction m divisor) = 3

-- found 0 or 3, finished 1, spent 2; the number of a refusal, which is 10 or 15
abbrev pub kind_of : Answer → ℕ
kind_of (found mapping cells) = found_kind mapping.score
kind_of (finished cells) = 1
kind_of (spent cells) = 2
kind_of (refused number) = number

-- a score in one signed number: itself, or the divisor, whose m is handed out beside it. A divisor that 32 signed bits do not hold is 0:
-- no session has one, and what a step answers on made-up words is open
abbrev pub shown : Score → ℤ
shown (Number z) = z
shown (Fraction m divisor) = cond (ltb divisor signed_limit) (pos divisor) (pos 0)

-- four lent numbers: a, b, what is shown of the score, and m
pub record Lent : Type 0 where
  pub a : ℕ
  pub b : ℕ
  pub score : ℤ
  pub m : ℕ

abbrev pub lent : ℕ → ℕ → ℤ → ℕ → Lent
lent a b score m = record { a = a; b = b; score = score; m = m }

-- the four after a step, given as they came: those of the mapping found, and where none is found they keep their content
abbrev pub lent_after : Answer → Lent → Lent
lent_after (found mapping cells) before = lent mapping.a mapping.b (shown mapping.score) mapping.m
lent_after (finished cells) before = before
lent_after (spent cells) before = before
lent_after (refused number) before = before

-- the work words, the budget and the four numbers before a step; then its kind, the work words, the four and the cells after it.
-- They are those of an answer that keeps step's promise
pub record Steps (work : List ℕ) (budget : ℕ) (before : Lent) (kind : ℕ) (work' : List ℕ) (after : Lent) (cells : ℕ) : Type 0 where
  pub answer : Result Stepped Refusal
  pub promise : StepPromise work budget answer work'
  pub kind_is : kind ≡ kind_of (answer_of answer)
  pub lent_is : after ≡ lent_after (answer_of answer) before
  -- a refused step reports no cells
  pub cells_is : cells ≡ reported (answer_of answer)
