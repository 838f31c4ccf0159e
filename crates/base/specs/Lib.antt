-- The vocabulary that the other crates' definitions are written in: limits, lists, counts of a word, what a call answers, bytes.
pub mod Limits
pub mod Lists
pub mod Counts
pub mod Replies
pub mod Refusals
pub mod Bytes
-- what only code speaks of
pub mod Zeros
