pub mod Readings
pub mod Codecs
pub mod Numbers
pub mod Sequences
pub mod Views
pub mod Tags
pub mod Lists
