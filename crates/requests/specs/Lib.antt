-- What is asked of a run, and the task of it.
pub mod Requests
pub mod Strands
