pub mod Items
pub mod Language
pub mod Spelled
pub mod Taken
pub mod TakenRows
