-- Laws of the reverse complement, and examples that compute.
pub mod Compute
pub mod Cases
pub mod Reversing
pub mod Laws
pub mod LawCases
pub mod Written
