-- The definitions that the contracts of this crate cite.
pub mod Scope
pub mod ByTree
pub mod ByTreeLaw
pub mod CopiedByTree
pub mod HeldCopies
pub mod Frame
pub mod SentByTree
pub mod InTurn
pub mod ItemsByTree
pub mod EntryByTree
