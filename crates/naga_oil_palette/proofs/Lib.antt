pub mod PaletteLemmas
