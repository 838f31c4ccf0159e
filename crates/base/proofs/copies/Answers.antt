-- An array of one value is the list that the contract names.
use Rattle.std.proofs.Common.{refl}
use Rattle.base.specs.Zeros.{copies}
use Rattle.base.proofs.copies.Goals as goal

pub returns-clause-value : goal.returns-clause-value
unfolding copies
returns-clause-value g c = refl
