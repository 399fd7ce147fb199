pub mod Compiled
pub mod Tables
pub mod Compiles
pub mod Answers
pub mod Bench
pub mod Acceptance
pub mod Numbers
pub mod RefusalCases
