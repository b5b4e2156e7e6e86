pub mod Layout
pub mod Numbers
pub mod Pieces
pub mod Signs
pub mod SpellRows
