-- From letters to k-mers and their ranks, in the order of document 01.
pub mod Letters
pub mod Kmers
-- what only code or proofs speak of: the same by places in the letters, and ranks back to codes
pub mod Places
pub mod Ranks
