-- Why a call is refused, in the numbers of the documents' table.
use Rattle.std.specs.Prelude.{ℕ, List, [], ◌∷◌, Result, Ok, Err}
use Rattle.base.specs.Replies.{Reply, accepted, refused}
use Rattle.base.specs.declared.refusal.Refusal.{Refusal}

-- the number of a refusal
abbrev pub refusal_number : Refusal → ℕ
refusal_number Refusal.BadK = 1
refusal_number Refusal.BadW = 2
refusal_number Refusal.TooManyLetters = 3
refusal_number (Refusal.TooShort needed) = 4
refusal_number Refusal.BadEntries = 5
refusal_number Refusal.BadLimit = 6
refusal_number Refusal.BadWeights = 7
refusal_number Refusal.TooManyEntries = 8
refusal_number Refusal.BadPattern = 9
refusal_number Refusal.TooFewWords = 10
refusal_number (Refusal.TooManyHits h) = 11
refusal_number (Refusal.BadHeader index) = 12
refusal_number (Refusal.BadWord index) = 13
refusal_number (Refusal.BadEnd index) = 14
refusal_number Refusal.BadWords = 15
refusal_number Refusal.BadCounts = 16
refusal_number Refusal.BadFraction = 17

-- its second value, where the table names one
abbrev pub refusal_values : Refusal → List ℕ
refusal_values Refusal.BadK = []
refusal_values Refusal.BadW = []
refusal_values Refusal.TooManyLetters = []
refusal_values (Refusal.TooShort needed) = needed ∷ []
refusal_values Refusal.BadEntries = []
refusal_values Refusal.BadLimit = []
refusal_values Refusal.BadWeights = []
refusal_values Refusal.TooManyEntries = []
refusal_values Refusal.BadPattern = []
refusal_values Refusal.TooFewWords = []
refusal_values (Refusal.TooManyHits h) = h ∷ []
refusal_values (Refusal.BadHeader index) = index ∷ []
refusal_values (Refusal.BadWord index) = index ∷ []
refusal_values (Refusal.BadEnd index) = index ∷ []
refusal_values Refusal.BadWords = []
refusal_values Refusal.BadCounts = []
refusal_values Refusal.BadFraction = []

abbrev pub refused_by : Refusal → Reply
refused_by refusal = refused (refusal_number refusal) (refusal_values refusal)

-- what a call answers: accepted with a number, or refused
abbrev pub reply_of : Result ℕ Refusal → Reply
reply_of (Ok n) = accepted (n ∷ [])
reply_of (Err refusal) = refused_by refusal
