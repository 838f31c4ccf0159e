-- What the numbers of the exported calls tell.
pub mod Stepping
pub mod Fractions
