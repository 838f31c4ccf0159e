-- One name that opens every definition of this crate and of minimizers, for proofs that compute.
use Rattle.minimizers.proofs.Compute.{minimizers_compute}
use Rattle.sketch.specs.Replies.{checked_letters, room_for, sketch_reply, sketch_codes, sketch_positions, count_reply}

unfoldable pub sketch_computes : Unit {0}
unfolding minimizers_compute checked_letters room_for sketch_reply sketch_codes sketch_positions count_reply
sketch_computes = tt
