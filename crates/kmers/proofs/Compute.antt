-- One name that opens the definitions of letters and k-mers, for proofs that compute.
use Rattle.kmers.specs.Letters.{value, is_foreign, runs}
use Rattle.kmers.specs.Kmers.{code_of, kmers, rank}

unfoldable pub kmers_compute : Unit {0}
unfolding value is_foreign runs code_of kmers rank
kmers_compute = tt
