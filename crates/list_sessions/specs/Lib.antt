-- The calls of both strands, as document 02 says it.
pub mod Calls
-- what only code speaks of: what these calls answer and leave
pub mod Sessions
