pub mod Held
pub mod Arguments
pub mod Ports
