pub mod Operands
pub mod DeclarationSteps
pub mod ModeSteps
pub mod Steps
pub mod Syntax
