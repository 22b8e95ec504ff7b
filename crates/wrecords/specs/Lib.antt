pub mod Forms
pub mod Cuts
