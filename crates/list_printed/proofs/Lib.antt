-- What is printed by Definition 1, and examples that compute.
pub mod Compute
pub mod Cases
pub mod Printed
