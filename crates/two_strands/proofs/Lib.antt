-- Demand 3 of both strands, that its hypotheses can be met, and an example that computes.
pub mod Demand3
pub mod Witness
pub mod Cases
