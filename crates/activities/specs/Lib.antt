pub mod Kept
pub mod Operands
pub mod KeptLaws
