-- The value of a letter by arithmetic.
pub mod Computed
