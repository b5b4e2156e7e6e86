-- The definitions that the contracts of this crate cite.
pub mod Build
pub mod BuildView
pub mod Built
pub mod Held
pub mod HeldRows
pub mod HeldView
pub mod Overriding
pub mod OverridingForm
mod OverridingRows
pub mod Virtuals
pub mod VirtualsView
pub mod Writeback
pub mod WritebackView
