-- Laws about the limits of winnowing and about its scan.
pub mod Within
mod Positions
pub mod Loops
pub mod Steps
pub mod Passing
