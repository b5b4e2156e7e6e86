-- The definitions that the contracts of this crate cite.
pub mod BuiltModule
pub mod ByName
pub mod CopiedBuild
pub mod CopySources
pub mod LinkView
pub mod Linked
pub mod LinkedRows
pub mod OwnPlaces
pub mod Owned
pub mod OwnedRows
pub mod Places
