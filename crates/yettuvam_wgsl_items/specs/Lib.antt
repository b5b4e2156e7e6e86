pub mod Acts
pub mod Attributes
pub mod Functions
pub mod Globals
pub mod ItemRows
pub mod Items
pub mod Lowered
pub mod ModuleRows
