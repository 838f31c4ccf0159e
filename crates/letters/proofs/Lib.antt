-- The law of the value by arithmetic, and examples of it.
pub mod Law
pub mod Cases
