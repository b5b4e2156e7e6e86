-- The definitions that the contracts of this crate cite.
pub mod Count
pub mod Level
pub mod Redirected
pub mod LevelRows
pub mod Ordered
pub mod Redirectable
pub mod PutInOrder
pub mod PutInOrderRows
pub mod Chain
pub mod ChainLaw
pub mod ChainRows
