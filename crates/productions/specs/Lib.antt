pub mod Read
pub mod ReadLaws
pub mod ModeLaws
pub mod ActLaws
pub mod Counted
