-- The lemmas of this crate.
pub mod Bodies
pub mod Makings
pub mod Modules
pub mod MiniTexts
pub mod PaletteTexts
