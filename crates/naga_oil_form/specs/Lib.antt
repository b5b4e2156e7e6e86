pub mod BodyForm
pub mod Form
pub mod FormItems
pub mod FormParts
mod FormRows
pub mod FormView
pub mod ItemForm
pub mod Links
pub mod NameForm
pub mod WellFormed
