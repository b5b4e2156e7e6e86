pub mod Said
pub mod Nested
