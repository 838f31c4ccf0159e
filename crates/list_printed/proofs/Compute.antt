-- One name that opens every definition that the list is made of, for proofs that compute.
use Rattle.strands.proofs.Compute.{strands_compute}
use Rattle.strike.proofs.Compute.{strike_computes}
use Rattle.mappings.proofs.Compute.{mappings_compute}
use Rattle.per_mille.proofs.Compute.{per_mille_computes}
use Rattle.list_line.proofs.Compute.{list_line_computes}
use Rattle.requests.specs.Requests.{text_of, pattern_of, task_of}
use Rattle.list_input.proofs.Compute.{list_input_computes}
use Rattle.session_start.specs.Start.{bad_weights, bad_fraction, start_reply}
use Rattle.list_open.specs.Calls.{sketches_reply, striking_reply, pattern_reply, calls_reply}
use Rattle.list_sessions.specs.Calls.{strands_reply}
use Rattle.list_lines.specs.Lines.{mapping_line}
use Rattle.list_printed.specs.Output.{final_cells, last_line, strand_lines, list_of, output_of}

unfoldable pub list_printed_computes : Unit {0}
unfolding strike_computes mappings_compute per_mille_computes list_line_computes list_input_computes bad_weights bad_fraction start_reply
    text_of pattern_of task_of sketches_reply striking_reply pattern_reply calls_reply strands_reply strands_compute
    mapping_line final_cells last_line strand_lines list_of output_of
list_printed_computes = tt
