pub mod Making
pub mod Reader
pub mod Valid
pub mod Front
pub mod MiniRows
