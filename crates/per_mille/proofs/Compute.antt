-- One name that opens every definition of this crate, for proofs that compute.
use Rattle.per_mille.specs.Rounding.{even_of, rounded, nearest, apart}
use Rattle.per_mille.specs.PerMille.{per_mille, is_refused, per_mille_answer, per_mille_number}

unfoldable pub per_mille_computes : Unit {0}
unfolding even_of rounded nearest apart per_mille is_refused per_mille_answer per_mille_number
per_mille_computes = tt
