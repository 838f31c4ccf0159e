-- What the code finds in the words of a store, as a reply.
pub mod Counted
