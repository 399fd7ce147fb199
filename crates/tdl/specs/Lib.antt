pub mod Numbers
pub mod Stages
pub mod Writings
