pub mod Following
pub mod Lent
