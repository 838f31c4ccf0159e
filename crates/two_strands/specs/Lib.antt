-- Runs on both strands, as 1/13 of document 02 says it.
pub mod TwoStrands
