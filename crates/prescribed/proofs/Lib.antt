pub mod Acceptance
pub mod Numbers
