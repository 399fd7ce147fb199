pub mod Meets
pub mod Going
