pub mod Balanced
pub mod Ending
pub mod Moves
pub mod Numbered
