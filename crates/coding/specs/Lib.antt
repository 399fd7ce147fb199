pub mod Codings
pub mod Whole
