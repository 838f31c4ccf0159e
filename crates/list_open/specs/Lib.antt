-- The calls that `maplist` makes before its steps, as documents 01 and 02 say it.
pub mod Calls
-- what only code speaks of: what these calls leave
pub mod Opening
