pub mod Puts
pub mod Ranged
pub mod Types
