-- The lemmas of this crate.
pub mod RenameLemmas
pub mod ReachLemmas
pub mod NameLemmas
pub mod ComposeLaws
pub mod TreeCopies
pub mod AtHand
pub mod HeldLemmas
pub mod HeldLaws
pub mod FrameLaws
pub mod ThereLaws
pub mod SentLaws
mod ByTreeRows
pub mod TurnLaws
pub mod ItemLaws
pub mod CallLaws
pub mod EntryLaws
