pub mod Filed
pub mod Sound
pub mod Theorems
pub mod Numbers
