pub mod Known
pub mod Laying
pub mod Filled
pub mod Rowed
pub mod Moded
pub mod Drafted
