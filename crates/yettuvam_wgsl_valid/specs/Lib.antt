pub mod Bindings
pub mod Calls
pub mod Flow
pub mod Interfaces
pub mod Valid
pub mod ValidRows
