-- Strands and the reverse complement, as 1/13 of document 02 says it.
pub mod Complement
pub mod Strands
-- what only laws speak of
pub mod Upper
