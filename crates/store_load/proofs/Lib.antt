-- What the code's count of entries says of judging.
pub mod Counted
