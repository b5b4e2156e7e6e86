pub mod BuiltLemmas
pub mod FunctionsLemmas
pub mod HeldLemmas
pub mod NameLemmas
mod OnceRows
pub mod OriginalsLemmas
pub mod OverridingFormLemmas
pub mod OverridingLemmas
pub mod SplitLemmas
pub mod WholeLemmas
pub mod WholeTextLemmas
pub mod WritebackLemmas
