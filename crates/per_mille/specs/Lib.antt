-- The per mille of a mapping, and the whole number nearest to a fraction.
pub mod Rounding
pub mod PerMille
