pub mod Crash
pub mod Distinct
pub mod Does
pub mod Ends
pub mod Memory
pub mod Safety
pub mod Sites
pub mod Steps
