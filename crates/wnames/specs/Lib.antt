pub mod Names
pub mod Calls
pub mod Types
pub mod Groups
pub mod Laws
