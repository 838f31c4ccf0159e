-- Laws about striking, and examples that compute.
pub mod Compute
pub mod Marked
pub mod Laws
pub mod LawCases
pub mod Cases
pub mod Replies
pub mod Accepted
pub mod Behind
