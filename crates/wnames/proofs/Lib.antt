mod Given
mod Fields
mod Typed
mod Listed
pub mod Operands
