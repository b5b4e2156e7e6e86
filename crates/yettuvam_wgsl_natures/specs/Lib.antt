pub mod Called
pub mod Kinds
pub mod Natures
pub mod Operands
pub mod NaturesRows
