-- The definitions that the contracts of this crate cite.
pub mod DerivedForm
pub mod EntryForm
pub mod FunctionForm
mod GoodFormRows
pub mod ItemsStand
pub mod OwnedForm
pub mod Shape
pub mod ShapeTest
pub mod TurnForm
