pub mod Rows
pub mod RowLaws
pub mod Fits
pub mod Every
pub mod Drivers
pub mod Guards
pub mod Agreement
