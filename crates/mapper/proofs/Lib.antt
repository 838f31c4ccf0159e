-- Laws about the work words, the column's update and sessions, and examples that compute.
pub mod Signed
pub mod Deciding
pub mod Decided
pub mod Walking
pub mod Places
pub mod Middles
pub mod SessionWords
pub mod WalkRule
pub mod StepTests
pub mod Accepted
pub mod Within
pub mod StepPromise
pub mod Demand3
pub mod Witness
pub mod Consequences
pub mod Cases
