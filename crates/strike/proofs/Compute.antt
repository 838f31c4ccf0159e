-- One name that opens every definition of this crate and of sketch, for proofs that compute.
use Rattle.sketch.proofs.Compute.{sketch_computes}
use Rattle.strike.specs.Strike.{strike, struck, strike_reply, strike_codes, strike_positions}

unfoldable pub strike_computes : Unit {0}
unfolding sketch_computes strike struck strike_reply strike_codes strike_positions
strike_computes = tt
