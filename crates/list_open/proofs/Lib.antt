-- Laws of the calls up to start.
pub mod Replies
pub mod Sketches
pub mod Letters
pub mod Accepted
