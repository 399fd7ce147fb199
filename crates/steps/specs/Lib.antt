pub mod Rows
pub mod RowLaws
pub mod Steps
pub mod Parts
