pub mod Boards
pub mod BoardLaws
pub mod Parts
pub mod Laid
pub mod Holding
pub mod Placing
pub mod Late
