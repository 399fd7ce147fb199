pub mod KeptActs
pub mod KeptCalls
pub mod KeptUpdates
pub mod KeptSwitches
pub mod KeptModes
pub mod KeptSources
pub mod Kept
