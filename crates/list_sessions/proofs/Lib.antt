-- Laws of the calls of both strands.
pub mod Both
pub mod Complement
pub mod Requests
