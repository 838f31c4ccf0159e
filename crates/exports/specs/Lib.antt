-- What the exported calls hand out through the C boundary.
pub mod Calls
pub mod Steps
