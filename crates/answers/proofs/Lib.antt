-- What the numbers of a call tell.
pub mod Accepted
