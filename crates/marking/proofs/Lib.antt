-- Laws of marks, and examples that compute.
pub mod Room
pub mod Cases
-- of the code's way: the filter, the list of the words that occur too often, and words looked up in it
mod Filter
mod Present
mod Ending
mod Runs
mod Heads
