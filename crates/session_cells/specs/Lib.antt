-- What passing the cells of a column answers and leaves, and what leaving a column does to starts.
pub mod Passing
pub mod Leaving
-- what only code speaks of: the cells up to the first that matters
pub mod Pausing
