-- The lines of a session's mappings, as documents 01 and 02 say it.
pub mod Lines
-- what only code and its contracts speak of: the pieces in which the lines are printed, and what is left after each
pub mod Pieces
