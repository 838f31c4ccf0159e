-- What marking the rare words of a list means.
pub mod Marks
-- what only code speaks of: the slots of a filter, and the list of the words that occur too often
pub mod Slots
pub mod Frequent
