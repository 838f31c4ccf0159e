-- The kinds of words in numbers.
use Rattle.std.specs.Prelude.{ℕ}
use Rattle.store.specs.declared.words.Kind.{Kind}
use Rattle.store.specs.declared.words.Kind.TheVariants.{Header, Code, Position, End}

abbrev pub kind_number : Kind → ℕ
kind_number Header = 0
kind_number Code = 1
kind_number Position = 2
kind_number End = 3
