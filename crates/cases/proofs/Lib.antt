-- Document 01's nine cases as one theorem, and examples that cross crates.
pub mod NineCases
