-- From k-mers to the winnowing sketch, in the order of document 01.
pub mod Windows
pub mod Sketch
-- what only code or proofs speak of: the same sketch by places in the letters
pub mod Places
