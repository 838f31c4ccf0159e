-- What the cells of a column share in the words of a session.
pub mod Lines
