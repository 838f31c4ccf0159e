-- The store of a sketch: its words, saving, what loading judges, and the round trip.
pub mod Words
pub mod Kinds
pub mod Save
pub mod Load
pub mod Answers
pub mod RoundTrip
