-- What step answers, when it refuses and what it promises, and demand 3 over lists of such steps, as document 01 says it.
pub mod Answers
pub mod Step
pub mod Promise
pub mod Sessions
-- what only code or proofs speak of: what a walk does to any words
pub mod Deciding
pub mod Walking
pub mod Spots
