pub mod Setting
pub mod Stores
pub mod Given
pub mod Values
pub mod Writer
pub mod Bodies
pub mod BodiesRows
