-- Laws of passing the cells of a column, and of leaving a column.
pub mod Passing
pub mod Fitting
pub mod Leaving
-- of the code's way: from one cell that matters to the next
mod Pausing
