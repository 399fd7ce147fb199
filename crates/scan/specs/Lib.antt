pub mod Blocks
pub mod Runs
pub mod Slices
pub mod KeyMarks
pub mod Places
pub mod WordBytes
pub mod Others
