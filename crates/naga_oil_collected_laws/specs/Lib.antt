-- The definitions that the contracts of this crate cite.
pub mod CollectedLaw
pub mod FirstReach
mod FirstReachRows
pub mod HeaderItems
pub mod HeaderRequests
mod HeaderRows
pub mod HeldItems
pub mod ItemOrder
pub mod ReachedBuilds
pub mod RequestedItems
pub mod Trail
mod TrailRows
