pub mod NotWritten
pub mod BodyReader
pub mod Order
pub mod Writer
