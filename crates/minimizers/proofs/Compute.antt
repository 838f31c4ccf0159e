-- One name that opens every definition up to the sketch, for proofs that compute.
use Rattle.minimizers.specs.Windows.{windows, lower}
use Rattle.minimizers.specs.Sketch.{picked_by, run_sketch, sketch_runs, sketch}
use Rattle.kmers.proofs.Compute.{kmers_compute}

unfoldable pub minimizers_compute : Unit {0}
unfolding kmers_compute windows lower picked_by run_sketch sketch_runs sketch
minimizers_compute = tt
