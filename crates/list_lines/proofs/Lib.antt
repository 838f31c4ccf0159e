-- Laws of the pieces in which the lines of a session's mappings are printed.
pub mod Left
pub mod Numbers
pub mod Rest
pub mod Going
pub mod Belonging
