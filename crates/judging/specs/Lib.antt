pub mod Rooms
pub mod Parted
pub mod Known
pub mod Asking
