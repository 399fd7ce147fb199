pub mod Divided
pub mod Emission
pub mod Going
pub mod Parts
pub mod Instants
pub mod Modes
pub mod Marks
