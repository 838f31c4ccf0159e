-- Laws about letters, k-mers and ranks, and examples that compute.
pub mod Compute
pub mod Cases
pub mod Entries
pub mod Ranks
pub mod Spans
pub mod Codes
