-- Laws of sorted copies and of searching words in order, which the crates above cite.
pub mod Sorting
pub mod Searching
pub mod Room
-- how the code sorts: digits, passes, and the counts that a pass makes
pub mod Buckets
pub mod Digits
pub mod Passes
