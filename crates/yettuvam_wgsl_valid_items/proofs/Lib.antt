pub mod RowAt
