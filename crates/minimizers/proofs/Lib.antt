-- Laws about windows and sketches, and examples that compute.
pub mod Compute
pub mod Cases
pub mod Runs
pub mod Picks
pub mod Laws
