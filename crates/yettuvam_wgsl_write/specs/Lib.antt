pub mod Functions
pub mod Modules
pub mod Plans
pub mod WriteRows
