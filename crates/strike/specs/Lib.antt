-- Striking of frequent k-mers, as document 01 says it.
pub mod Strike
-- what only code speaks of: the same by marks
pub mod Marked
