pub mod Copies
pub mod Faces
pub mod Ticks
