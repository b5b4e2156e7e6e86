pub mod BuiltIns
pub mod CallRows
pub mod Calls
pub mod Constructors
pub mod Textures
