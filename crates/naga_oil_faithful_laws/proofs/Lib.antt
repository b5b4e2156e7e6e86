-- The lemmas of this crate.
pub mod Texts
pub mod Builds
pub mod Answered
pub mod Comes
pub mod Refused
pub mod Copied
pub mod Row
pub mod Promise
pub mod Wrong
pub mod WrongItems
pub mod SpecialTypes
pub mod SortedNames
pub mod OwnNames
pub mod Turned
pub mod Pins
pub mod Clauses
