-- Which work word holds what, by name.
pub mod FirstWords
-- the builder's choice, which code and proofs speak of
pub mod Layout
