pub mod Context
pub mod Expressions
pub mod ExpressionsRows
pub mod Kinds
pub mod Operands
pub mod Shapes
pub mod Textures
