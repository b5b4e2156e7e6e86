pub mod Named
pub mod Puts
