pub mod States
pub mod Lent
pub mod Fitting
pub mod Edges
