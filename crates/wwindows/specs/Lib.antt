pub mod Windows
pub mod Order
pub mod Limits
