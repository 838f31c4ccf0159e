-- Laws of score words, of records and of blocks of rows.
pub mod Words
pub mod Greater
pub mod Highest
pub mod Recorded
pub mod Blocks
pub mod Knowledge
pub mod Skipping
pub mod Cases
