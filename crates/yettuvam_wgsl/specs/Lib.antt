pub mod Front
pub mod FrontRows
