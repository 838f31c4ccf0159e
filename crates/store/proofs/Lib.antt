-- Laws about stores, and examples that compute.
pub mod Compute
pub mod WordLaws
pub mod Entries
pub mod Judging
pub mod RoundTrip
pub mod FirstBad
pub mod Filling
pub mod Accepting
pub mod Contracts
pub mod Cases
