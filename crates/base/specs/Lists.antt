-- Lists: the part that passes a test, a test of all or of some, neighbouring numbers, a sum.
use Rattle.std.specs.Prelude.{ℕ, zero, suc, ◌+◌, Bool, true, false, cond, ◌&&◌, ◌||◌, List, [], ◌∷◌}

-- a test as a number
abbrev pub bit : Bool → ℕ
bit true = 1
bit false = 0

module _ {ℓ} {A : Type ℓ} where
  -- the list with a in front, where the test passes
  abbrev pub add_if : Bool → A → List A → List A
  add_if true a l = a ∷ l
  add_if false a l = l

  -- the elements that pass the test, in their order
  abbrev pub keep : (A → Bool) → List A → List A
  keep f [] = []
  keep f (a ∷ l) = add_if (f a) a (keep f l)

  -- some element passes the test
  abbrev pub any : (A → Bool) → List A → Bool
  any f [] = false
  any f (a ∷ l) = f a || any f l

  -- every element passes the test
  abbrev pub every : (A → Bool) → List A → Bool
  every f [] = true
  every f (a ∷ l) = f a && every f l

  -- the lists with a in front of the first
  abbrev pub extend : A → List (List A) → List (List A)
  extend a [] = (a ∷ []) ∷ []
  extend a (l ∷ ls) = (a ∷ l) ∷ ls

  -- the parts of a list between the elements that pass the test: one part more than there are such elements, and a part may be
  -- empty
  abbrev pub parts_between : (A → Bool) → List A → List (List A)
  parts_between f [] = [] ∷ []
  parts_between f (a ∷ l) = cond (f a) ([] ∷ parts_between f l) (extend a (parts_between f l))

-- the n numbers from a on: a, a + 1, ..
abbrev pub range : ℕ → ℕ → List ℕ
range a zero = []
range a (suc n) = a ∷ range (suc a) n

abbrev pub sum : List ℕ → ℕ
sum [] = 0
sum (x ∷ xs) = x + sum xs
