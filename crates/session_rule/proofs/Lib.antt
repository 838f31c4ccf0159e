-- The cells of a column in the words of a session, passed by the rule.
pub mod Scores
pub mod Knowing
pub mod CellTests
pub mod Chunk
pub mod OneCell
pub mod Skipping
pub mod Passing
pub mod Leaving
