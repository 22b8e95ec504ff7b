pub mod Resolving
pub mod Functions
pub mod Groups
pub mod Lookups
