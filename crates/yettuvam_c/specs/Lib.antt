pub mod Kinds
pub mod Laid
pub mod Given
pub mod Parts
pub mod Answer
pub mod Built
