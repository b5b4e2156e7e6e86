-- The definitions that the contracts of this crate cite.
mod CopiesRows
pub mod Headers
pub mod HeldBuild
pub mod KeptAlike
pub mod LinkedCopies
pub mod Once
pub mod OrderedCopies
pub mod ParsedShape
pub mod ReadIn
pub mod Requested
pub mod SpecialComes
pub mod ThroughBuilds
