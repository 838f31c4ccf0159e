-- Laws of the input's numbers, fields and lines, and examples that compute.
pub mod Compute
pub mod Cases
pub mod Parts
pub mod Numbers
pub mod Fields
pub mod Lines
pub mod Searches
pub mod Places
pub mod Enough
pub mod ReadBack
