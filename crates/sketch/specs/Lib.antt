-- What document 01's sketch and count answer.
pub mod Replies
pub mod Answers
