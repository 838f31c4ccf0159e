-- One name that opens every definition of this crate, for proofs that compute.
use Rattle.mappings.specs.Score.{interval, shared, distance, linear, divisor, length_of, shared_of, score_of}
use Rattle.mappings.specs.Bias.{biased}
use Rattle.mappings.specs.Unbiased.{unbiased}
use Rattle.mappings.specs.FinalTest.{is_reasonable, is_maximal, is_final, is_final_cell}
use Rattle.mappings.specs.Cells.{hits, hit_count, column, cell_count, cells_of, left_end, right_end, mapping_of}
use Rattle.mappings.specs.HitCodes.{hit_codes}
use Rattle.mappings.specs.Places.{place}
use Rattle.mappings.specs.Rule.{looked_at, rule_answer, is_accepted}
use Rattle.mappings.specs.Steps.{step_answer, answers}
use Rattle.mappings.specs.Demand.{is_ample}

unfoldable pub mappings_compute : Unit {0}
unfolding interval shared distance linear divisor length_of shared_of score_of biased unbiased is_reasonable is_maximal is_final hits hit_count hit_codes column
    cell_count place cells_of left_end right_end is_final_cell mapping_of looked_at rule_answer is_accepted step_answer answers is_ample
mappings_compute = tt
