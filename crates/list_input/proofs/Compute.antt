-- One name that opens every definition of this crate, for proofs that compute.
use Rattle.list_input.specs.Input.{is_unsigned, is_signed, signed_value, is_jaccard, scoring_of, lines, fields, is_first_line, is_well_formed}
use Rattle.list_input.specs.Input.{settings_of, input_of}
use Rattle.list_input.specs.Answers.{first_part, digits_of, number_of, threshold_of, last_field_of, field_of, first_line_of}

unfoldable pub list_input_computes : Unit {0}
unfolding is_unsigned is_signed signed_value is_jaccard scoring_of lines fields is_first_line is_well_formed settings_of input_of first_part digits_of number_of
    threshold_of last_field_of field_of first_line_of
list_input_computes = tt
