-- Laws of rounding and of per mille, and examples that compute.
pub mod Compute
pub mod Rounding
pub mod PerMille
pub mod Cases
