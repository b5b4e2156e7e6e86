pub mod NameLemmas
pub mod NameLaws
pub mod TableLemmas
