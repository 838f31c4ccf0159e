-- Laws about lists, counts, ranges and fractions, which the crates above cite.
pub mod Lists
pub mod Counts
pub mod Replies
pub mod Writing
pub mod Ranges
pub mod Fractions
pub mod Cases
