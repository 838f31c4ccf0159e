-- The list that is read by a person: the printed line.
pub mod Line
-- what only the writers' own contracts and those of their callers speak of
pub mod Writing
