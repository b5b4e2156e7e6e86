pub mod Blocks
pub mod Body
pub mod BodyRows
pub mod Value
