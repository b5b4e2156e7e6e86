pub mod ArgumentRows
pub mod Arguments
pub mod BuiltIns
pub mod Textures
pub mod Words
