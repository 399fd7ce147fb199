pub mod Ahead
pub mod AheadLaws
