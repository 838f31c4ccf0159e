-- `value` meets its contract: for the eight by the law of the value by arithmetic, and the other arm says that the byte is none of them.
use Prim.Native.Nat.{ℕ}
use native.Mathlib.Omega.{arith}
use mathlib.Core.Path.{sym, ◌∙◌}
use mathlib.Core.Logic.{inl, inr}
use mathlib.Core.List.{List, [], ◌∷◌, Memᴰ}
use types.Run.{OneOf}
use Rattle.std.proofs.lemmas.Grind.{common_steps}
use Rattle.kmers.specs.Letters.{value}
use Rattle.letters.specs.Computed.{eight}
use Rattle.letters.proofs.Law.{computed_value}
use Rattle.letters.proofs.value.Goals as goal

-- a byte that a match has found among these is one of them
one_of : (b : ℕ) (l : List ℕ) → OneOf l b → Memᴰ b l
one_of b [] h = absurd h
one_of b (x ∷ []) h = Memᴰ.head h
one_of b (x ∷ y ∷ l) (inl h) = Memᴰ.head h
one_of b (x ∷ y ∷ l) (inr h) = Memᴰ.tail (one_of b (y ∷ l) h)

pub returns-in-65 : goal.returns-in-65
returns-in-65 c = c.computed.ensures ∙ sym (computed_value c.args.b (one_of c.args.b eight c.in-65.is))

pub returns-in_default : goal.returns-in_default
unfolding value
returns-in_default c = grind (arith, common_steps)
