-- Laws about the work words, what start's functions ask and give, and examples that compute.
pub mod Bias
mod ScoreWords
pub mod Tables
pub mod WorkWords
mod Storing
mod Ring
mod Reaching
mod Noting
mod Linking
mod BlockStarts
mod Putting
mod Starting
mod Replies
pub mod Cases
