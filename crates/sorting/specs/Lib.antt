-- What sorting words and searching words in order mean.
pub mod Sorting
-- the search as the code makes it; `proofs.Searching` has what it finds
pub mod Searching
-- the sort as the code makes it
pub mod Digits
