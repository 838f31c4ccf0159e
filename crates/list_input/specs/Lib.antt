-- The three lines of the input, as document 01 says it.
pub mod Input
-- what only the readers' own contracts speak of
pub mod Answers
