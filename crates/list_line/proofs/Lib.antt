-- Laws of buffers and of numbers in decimal, and examples that compute.
pub mod Compute
pub mod Cases
pub mod Buffers
pub mod Decimal
pub mod Writers
pub mod Pieces
