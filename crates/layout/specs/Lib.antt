pub mod Rows
pub mod Plain
pub mod Filling
pub mod Cells
