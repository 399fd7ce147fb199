pub mod Tabs
pub mod Rows
