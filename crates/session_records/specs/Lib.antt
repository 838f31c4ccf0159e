-- Score words and their order; records and blocks of rows, over any test of score words.
pub mod Words
pub mod Records
-- what only proofs speak of: what is asked of the test, and of a score
pub mod Order
