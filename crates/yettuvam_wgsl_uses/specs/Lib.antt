pub mod Marks
pub mod Texts
pub mod Facts
pub mod Order
pub mod Choice
pub mod Compounds
pub mod Uses
pub mod UsesRows
