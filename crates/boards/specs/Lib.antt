pub mod Lists
pub mod Drivers
pub mod Guards
pub mod Lots
pub mod Modes
pub mod Agreement
pub mod Starts
