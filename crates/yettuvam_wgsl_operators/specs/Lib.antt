pub mod Circuits
pub mod Members
pub mod OperatorRows
pub mod Operators
