-- The definitions that the contracts of this crate cite.
pub mod Walk
pub mod Naming
pub mod Walks
pub mod Waiting
