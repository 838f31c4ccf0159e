-- What winnowing leaves in two buffers.
pub mod Winnowed
-- the letters and ranks that the code has at hand
pub mod Blocks
-- what the code keeps from letter to letter
pub mod Scan
