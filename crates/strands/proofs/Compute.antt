-- One name that opens every definition of this crate and of kmers, for proofs that compute.
use Rattle.kmers.proofs.Compute.{kmers_compute}
use Rattle.strands.specs.Complement.{complement, reverse_complement, complement_reply, complement_bytes}
use Rattle.strands.specs.Upper.{upper, opposite}

unfoldable pub strands_compute : Unit {0}
unfolding kmers_compute complement reverse_complement complement_reply complement_bytes upper opposite
strands_compute = tt
