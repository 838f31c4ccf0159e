-- Laws about the score, Definition 1, cells and the rule, and examples that compute.
pub mod Integers
pub mod Scores
pub mod Shared
pub mod Trim
pub mod Rising
pub mod Hits
pub mod Definition1
pub mod Cells
pub mod Range
pub mod Rule
pub mod Steps
pub mod Finals
pub mod Demand
pub mod Demanded
pub mod HitCodes
pub mod Compute
pub mod Cases
