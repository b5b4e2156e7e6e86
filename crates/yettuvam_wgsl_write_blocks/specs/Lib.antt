pub mod Parts
pub mod Branches
pub mod Loops
pub mod Switches
pub mod Blocks
pub mod BlocksRows
