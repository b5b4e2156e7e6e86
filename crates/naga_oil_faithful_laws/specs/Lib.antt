-- The definitions that the contracts of this crate cite.
pub mod ClauseLaws
pub mod SmallMake
pub mod SmallMakeLaw
pub mod OwnNames
pub mod PromiseLaw
pub mod SpecialTypes
pub mod WrongModules
