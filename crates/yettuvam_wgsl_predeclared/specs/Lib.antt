pub mod Functions
pub mod Letters
pub mod Textures
pub mod WordRows
pub mod Words
