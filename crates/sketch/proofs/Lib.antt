-- Laws about the answers of sketch and count, and examples that compute.
pub mod Compute
pub mod Cases
pub mod Buffers
pub mod Answering
pub mod Accepted
