pub mod Files
pub mod FilesRows
pub mod Rounds
