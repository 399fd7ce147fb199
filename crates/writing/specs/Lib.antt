pub mod Puts
pub mod Cells
pub mod Wrote
