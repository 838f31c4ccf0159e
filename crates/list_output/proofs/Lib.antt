-- Laws of the pieces in which the output is printed.
pub mod Threshold
pub mod OpenedSession
pub mod Turns
pub mod Next
pub mod Whole
