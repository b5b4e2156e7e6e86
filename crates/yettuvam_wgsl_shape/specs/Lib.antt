pub mod LiteralRows
pub mod Literals
pub mod Numbers
pub mod Operators
