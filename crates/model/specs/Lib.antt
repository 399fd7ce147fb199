pub mod Bytes
pub mod Rooms
pub mod Values
pub mod Clock
pub mod Modules
pub mod Instructions
pub mod Cases
