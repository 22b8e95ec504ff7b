pub mod Saying
pub mod Held
pub mod Cuts
pub mod Lines
pub mod Decimals
