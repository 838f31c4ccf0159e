-- The scores and Definition 1, cells, and the rule of a list of steps, in the order of document 01.
pub mod Score
pub mod Definition1
pub mod Cells
pub mod FinalTest
pub mod Rule
pub mod Demand
-- what is asked of a score
pub mod Scored
-- what the work words of a session hold: the codes of the hits, linear scores as words
pub mod HitCodes
pub mod Bias
-- what only code or proofs speak of
pub mod Unbiased
pub mod Places
pub mod Steps
