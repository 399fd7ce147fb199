pub mod Stores
pub mod StoreLaws
pub mod TaskLaws
