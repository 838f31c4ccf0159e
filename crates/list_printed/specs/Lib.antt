-- The whole of what `maplist` prints, from the bytes of its input, as documents 01 and 02 say it; and the same by Definition 1.
pub mod Output
pub mod Printed
