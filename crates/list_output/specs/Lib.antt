-- What only code and its contracts speak of: the pieces in which the output is printed, and what is left after each.
pub mod Beginning
pub mod Filling
pub mod Whole
